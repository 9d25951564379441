-- A page: lent bytes that take a part of a longer text, which is put byte by byte. The bytes before the part are passed over, and those past
-- the page's end are left out. Assumes nothing: these are definitions.
use Rattle.std.specs.Prelude.{ℕ, zero, suc, ◌+◌, ◌-◌, Bool, true, false, cond, Some, None, List, [], ◌∷◌, ◌++◌, ltb, length, take, drop, set}
use Rattle.std.specs.Option.{option_map_or}
use Rattle.std.specs.Borrow.{GName}
use Rattle.pages.specs.declared.page.Page as code
use Rattle.pages.specs.declared.page.Printed.{Printed}

-- So many bytes are still to be passed over, the next byte goes to place `at`, `more` tells whether a byte was left out, these are the lent
-- bytes, and `loan` is the name of the loan: it stays the same, so that what is put stands in the bytes of the lender in the end.
pub record Page : Type 0 where
  pub skip : ℕ
  pub at : ℕ
  pub more : Bool
  pub bytes : List ℕ
  pub loan : GName

-- The page that a struct of the code tells: its bytes are those that are lent to it now.
abbrev pub page_of : code.Page → Page
page_of p = record { skip = p.skip; at = p.at; more = p.more; bytes = p.bytes.now; loan = p.bytes.ghost_name }

-- A page of lent bytes on which nothing is put yet, and on which so many bytes are to be passed over.
abbrev pub empty_page : ℕ → List ℕ → GName → Page
empty_page skip bytes loan = record { skip = skip; at = 0; more = false; bytes = bytes; loan = loan }

-- One byte is put: it is passed over, stored, or left out.
unfoldable pub put_byte : ℕ → Page → Page
put_byte b p =
    cond (ltb 0 p.skip) (record p { skip = p.skip - 1 })
    (cond (ltb p.at (length p.bytes)) (record p { at = p.at + 1; bytes = set p.bytes p.at b })
    (record p { more = true }))

-- Bytes are put one after the other.
unfoldable pub put : List ℕ → Page → Page
unfolding put_byte
put [] p = p
put (b ∷ l) p = put l (put_byte b p)

-- The part of a text that begins after `from` bytes and has at most `most`.
unfoldable pub window : ℕ → ℕ → List ℕ → List ℕ
window from most l = take most (drop from l)

-- ---- a text page by page

-- What is said of a page that begins after `from` bytes: how many bytes it has, and where the next one begins, if one follows, which is so
-- exactly when the text is longer than what has been given with this page.
unfoldable pub printed_of : ℕ → ℕ → List ℕ → Printed
unfolding window
printed_of from most l =
    let bytes = length (window from most l) in
    record { bytes = bytes; next = cond (ltb (from + bytes) (length l)) (Some (from + bytes)) None }

-- The pages one after the other: the one that begins after `from` bytes, and as long as one follows, the next from where it is said to begin;
-- `count` pages at most.
unfoldable pub pages_from : ℕ → ℕ → ℕ → List ℕ → List ℕ
unfolding window printed_of
pages_from zero from most l = []
pages_from (suc count) from most l =
    window from most l ++ option_map_or (λ next. pages_from count next most l) (printed_of from most l).next []
