-- What a page holds in the end: a page that begins empty takes its window of the text, what is past that keeps its content, and a byte is left
-- out exactly where the text goes on. So the pages in order are the text. From what one byte does, by induction over the text.
use Rattle.std.specs.Prelude.{ℕ, zero, suc, ◌+◌, ◌-◌, ◌≤◌, ◌<◌, ◌≡◌, refl, Bool, true, false, cond, ◌||◌, Some, None, List, [], ◌∷◌, ◌++◌, ltb, take, drop, set}
use Rattle.std.specs.Bool.{then_some}
use Rattle.std.specs.Option.{option_map_or}
use Rattle.std.specs.Borrow.{GName}
use Rattle.std.proofs.Common.{sym, ap, ap₂, ◌∙◌, append_assoc, append-nil, arith, add-zero, zero-add, add-one, take-append-drop, length-append, length-take, length-drop, drop_of_length-le, take_all, take-suc-set, drop-set-lt, drop-drop}
use Rattle.std.proofs.lemmas.Option.{none-some, cond_some}
use Rattle.std.proofs.Math.Bool.{or-true, or-false}
use Rattle.std.proofs.Math.Decide.{dec_le, dec_lt}
use Rattle.std.proofs.Math.Nat.{sub-zero}
use borrow.Author.Tests.{lt-ltb, le-ltb, ltb-true, ltb-false}
use Rattle.std.proofs.Math.ListN.{length, length-set}
use Rattle.std.proofs.Math.Seq.{take-nil}
use Rattle.sets.specs.Lists.{overwritten}
use Rattle.sets.specs.Laws.Choice.{by_test, alike}
use Rattle.pages.specs.declared.page.Printed.{Printed}
use Rattle.pages.specs.Page.{Page, empty_page, put, put_byte, window, printed_of, pages_from}

-- ---- the laws

module _ (b : ℕ) (p : Page) where
  pub passed : 0 < p.skip → put_byte b p ≡ record p { skip = p.skip - 1 }
  unfolding put_byte
  passed h = rw (lt-ltb 0 p.skip h)

  pub stored : p.skip ≤ 0 → p.at < length p.bytes
      → put_byte b p ≡ record p { at = p.at + 1; bytes = set p.bytes p.at b }
  unfolding put_byte
  stored h l = rw (le-ltb 0 p.skip h, lt-ltb p.at (length p.bytes) l)

  pub left_out_lem : p.skip ≤ 0 → length p.bytes ≤ p.at → put_byte b p ≡ record p { more = true }
  unfolding put_byte
  left_out_lem h l = rw (le-ltb 0 p.skip h, le-ltb p.at (length p.bytes) l)

  pub length_byte : length (put_byte b p).bytes ≡ length p.bytes
  unfolding put_byte
  length_byte =
      by_test (λ (q : Page). length q.bytes ≡ length p.bytes) (ltb 0 p.skip)
      (λ _. refl)
      (λ _.
      by_test (λ (q : Page). length q.bytes ≡ length p.bytes) (ltb p.at (length p.bytes))
      (λ _. length-set p.bytes p.at b)
      (λ _. refl))

  loan_byte : (put_byte b p).loan ≡ p.loan
  unfolding put_byte
  loan_byte =
      by_test (λ (q : Page). q.loan ≡ p.loan) (ltb 0 p.skip)
      (λ _. refl)
      (λ _. by_test (λ (q : Page). q.loan ≡ p.loan) (ltb p.at (length p.bytes)) (λ _. refl) (λ _. refl))

pub put_append : (l m : List ℕ) (p : Page) → put (l ++ m) p ≡ put m (put l p)
unfolding put
put_append [] m p = refl
put_append (b ∷ l) m p = put_append l m (put_byte b p)

pub length_put : (l : List ℕ) (p : Page) → length (put l p).bytes ≡ length p.bytes
unfolding put
length_put [] p = refl
length_put (b ∷ l) p = length_put l (put_byte b p) ∙ length_byte b p

loan_put : (l : List ℕ) (p : Page) → (put l p).loan ≡ p.loan
unfolding put
loan_put [] p = refl
loan_put (b ∷ l) p = loan_put l (put_byte b p) ∙ loan_byte b p

-- The bytes to be passed over are dropped first.
skipped : (l : List ℕ) (from at : ℕ) (more : Bool) (bytes : List ℕ) (loan : GName)
    → put l (record { skip = from; at = at; more = more; bytes = bytes; loan = loan })
    ≡ put (drop from l) (record { skip = from - length l; at = at; more = more; bytes = bytes; loan = loan })
unfolding put
skipped l zero at more bytes loan = ap (λ (n : ℕ). put l (record { skip = n; at = at; more = more; bytes = bytes; loan = loan })) (omega arith)
skipped [] (suc from) at more bytes loan = ap (λ (n : ℕ). put [] (record { skip = n; at = at; more = more; bytes = bytes; loan = loan })) (omega arith)
skipped (b ∷ l) (suc from) at more bytes loan =
    ap (put l) (passed b (record { skip = suc from; at = at; more = more; bytes = bytes; loan = loan }) (omega arith))
    ∙ ap (λ (n : ℕ). put l (record { skip = n; at = at; more = more; bytes = bytes; loan = loan })) (omega arith)
    ∙ skipped l from at more bytes loan
    ∙ ap (λ (n : ℕ). put (drop from l) (record { skip = n; at = at; more = more; bytes = bytes; loan = loan })) (omega arith)

-- Then as many are stored as there is room for. On a page whose places before `at` are taken, w takes the next ones, and what is past them
-- stays.
unfoldable taken : ℕ → ℕ → Bool → List ℕ → List ℕ → GName → Page
taken skip at more w bytes loan =
    record { skip = skip; at = at + length w; more = more; bytes = take at bytes ++ (w ++ drop (at + length w) bytes); loan = loan }

taken_none : (skip at : ℕ) (more : Bool) (bytes : List ℕ) (loan : GName) → record { skip = skip; at = at; more = more; bytes = bytes; loan = loan } ≡ taken skip at more [] bytes loan
unfolding taken
taken_none skip at more bytes loan = rw (add-zero at, take-append-drop at bytes) refl

-- the byte b, and w behind it
taken_more : (skip at : ℕ) (more : Bool) (b : ℕ) (w bytes : List ℕ) (loan : GName) → at < length bytes
    → taken skip (at + 1) more w (set bytes at b) loan ≡ taken skip at more (b ∷ w) bytes loan
unfolding taken
taken_more skip at more b w bytes loan h =
    let place : at + 1 + length w ≡ at + suc (length w) = omega arith in
    rw (place, add-one at, take-suc-set bytes at b h, drop-set-lt (at + suc (length w)) bytes at b (omega arith), append_assoc (take at bytes) (b ∷ []) (w ++ drop (at + suc (length w)) bytes)) refl

-- Whether a byte is left out: one was already, or the text is longer than the room behind place `at`.
unfoldable left_out : Bool → ℕ → ℕ → ℕ → Bool
left_out more at room size = more || ltb room (at + size)

filled : (l : List ℕ) (skip at : ℕ) (more : Bool) (bytes : List ℕ) (loan : GName) → skip ≤ 0 → at ≤ length bytes
    → put l (record { skip = skip; at = at; more = more; bytes = bytes; loan = loan })
    ≡ taken skip at (left_out more at (length bytes) (length l)) (take (length bytes - at) l) bytes loan
unfolding put left_out
filled [] skip at more bytes loan z h =
    taken_none skip at more bytes loan
    ∙ ap₂ (λ (m : Bool) (w : List ℕ). taken skip at m w bytes loan)
    (sym (ap (λ (t : Bool). more || t) (le-ltb (length bytes) (at + 0) (omega arith)) ∙ or-false more)) (sym (take-nil (length bytes - at)))
filled (b ∷ l) skip at more bytes loan z h = go (filled l skip) (dec_lt at (length bytes))
  where
    less : at < length bytes → b ∷ take (length bytes - (at + 1)) l ≡ take (length bytes - at) (b ∷ l)
    less room = let e : length bytes - at ≡ suc (length bytes - (at + 1)) = omega arith in rw e refl

    none : length bytes ≤ at → take (length bytes - at) l ≡ take (length bytes - at) (b ∷ l)
    none full = let e : length bytes - at ≡ 0 = omega arith in rw e refl

    further : at + 1 + length l ≡ at + suc (length l)
    further = omega arith

    go : ((at : ℕ) (more : Bool) (bytes : List ℕ) (loan : GName) → skip ≤ 0 → at ≤ length bytes
        → put l (record { skip = skip; at = at; more = more; bytes = bytes; loan = loan })
        ≡ taken skip at (left_out more at (length bytes) (length l)) (take (length bytes - at) l) bytes loan)
        → Dec (at < length bytes)
        → put l (put_byte b (record { skip = skip; at = at; more = more; bytes = bytes; loan = loan }))
        ≡ taken skip at (left_out more at (length bytes) (suc (length l))) (take (length bytes - at) (b ∷ l)) bytes loan
    go later (yes room) =
        ap (put l) (stored b (record { skip = skip; at = at; more = more; bytes = bytes; loan = loan }) z room)
        ∙ later (at + 1) more (set bytes at b) loan z (rw length-set (omega arith))
        ∙ ap (λ (n : ℕ). taken skip (at + 1) (left_out more (at + 1) n (length l)) (take (n - (at + 1)) l) (set bytes at b) loan) (length-set bytes at b)
        ∙ ap (λ (n : ℕ). taken skip (at + 1) (more || ltb (length bytes) n) (take (length bytes - (at + 1)) l) (set bytes at b) loan) further
        ∙ taken_more skip at (left_out more at (length bytes) (suc (length l))) b (take (length bytes - (at + 1)) l) bytes loan room
        ∙ ap (λ w. taken skip at (left_out more at (length bytes) (suc (length l))) w bytes loan) (less room)
    go later (no full) =
        let over : length bytes ≤ at = omega arith in
        ap (put l) (left_out_lem b (record { skip = skip; at = at; more = more; bytes = bytes; loan = loan }) z over)
        ∙ later at true bytes loan z h
        ∙ ap₂ (λ (m : Bool) (w : List ℕ). taken skip at m w bytes loan)
        (sym (ap (λ (t : Bool). more || t) (lt-ltb (length bytes) (at + suc (length l)) (omega arith)) ∙ or-true more)) (none over)

-- A page that begins empty takes its window of the text, what is past that keeps its content, and a byte is left out exactly where the text is
-- longer than what has been given with this page.
pub record Taken (l lent : List ℕ) (from : ℕ) (loan : GName) (p : Page) : Type 0 where
  pub place : p.at ≡ length (window from (length lent) l)
  pub more : p.more ≡ ltb (from + length (window from (length lent) l)) (length l)
  pub bytes : p.bytes ≡ overwritten (window from (length lent) l) lent
  pub same_loan : p.loan ≡ loan

-- The text is longer than the page exactly when it is longer than what has been given with the page.
goes_on : (l : List ℕ) (from most : ℕ) → from ≤ length l → ltb most (0 + length (drop from l)) ≡ ltb (from + length (take most (drop from l))) (length l)
goes_on l from most within =
    alike (ltb most (0 + length (drop from l))) (ltb (from + length (take most (drop from l))) (length l))
    (λ e. lt-ltb (from + length (take most (drop from l))) (length l)
    (omega (arith, ltb-true most (0 + length (drop from l)) e, length-take most (drop from l), length-drop from l)))
    (λ e. lt-ltb most (0 + length (drop from l))
    (omega (arith, ltb-true (from + length (take most (drop from l))) (length l) e, length-take most (drop from l), length-drop from l)))

pub page_taken : (l lent : List ℕ) (from : ℕ) (loan : GName) → Taken l lent from loan (put l (empty_page from lent loan))
unfolding window overwritten put taken left_out
page_taken l lent from loan = go (dec_le from (length l))
  where
    go : Dec (from ≤ length l) → Taken l lent from loan (put l (empty_page from lent loan))
    go (yes within) =
        let w : List ℕ = take (length lent) (drop from l) in
        let m : Bool = ltb (length lent) (0 + length (drop from l)) in
        let e : put l (empty_page from lent loan) ≡ taken (from - length l) 0 m w lent loan =
        skipped l from 0 false lent loan ∙ filled (drop from l) (from - length l) 0 false lent loan (omega arith) (omega arith)
        ∙ ap (λ (n : ℕ). taken (from - length l) 0 m (take n (drop from l)) lent loan) (sub-zero (length lent)) in
        record {
          place = ap (λ (p : Page). p.at) e ∙ zero-add (length w);
          more = ap (λ (p : Page). p.more) e ∙ goes_on l from (length lent) within;
          bytes = ap (λ (p : Page). p.bytes) e ∙ ap (λ (n : ℕ). w ++ drop n lent) (zero-add (length w));
          same_loan = loan_put l (empty_page from lent loan);
        }
    go (no past) =
        let gone : drop from l ≡ [] = drop_of_length-le l {i = from} (omega arith) in
        let none : take (length lent) (drop from l) ≡ [] = ap (take (length lent)) gone ∙ take-nil (length lent) in
        rw (skipped l from 0 false lent loan, gone)
        (record {
          place = sym (ap length none);
          more = sym (le-ltb (from + length (take (length lent) (drop from l))) (length l) (omega arith));
          bytes = sym (ap (λ w. w ++ drop (length w) lent) none);
          same_loan = refl;
        })

-- A window fits its page, and the page keeps its length.
pub window_fits : (l lent : List ℕ) (from : ℕ) → length (window from (length lent) l) ≤ length lent
unfolding window
window_fits l lent from = omega (arith, length-take (length lent) (drop from l))

pub page_length : (l lent : List ℕ) (from : ℕ) → length (overwritten (window from (length lent) l) lent) ≡ length lent
unfolding overwritten
page_length l lent from =
    let w : List ℕ = window from (length lent) l in
    length-append w (drop (length w) lent) ∙ omega (arith, length-drop (length w) lent, window_fits l lent from)

-- ---- what is said of a page

given_if : (t : Bool) (n : ℕ) → then_some t n ≡ cond t (Some n) None
given_if true n = refl
given_if false n = refl

abbrev said : ℕ → ℕ → Bool → Printed
said from bytes more = record { bytes = bytes; next = cond more (Some (from + bytes)) None }

pub printed_is : (l lent : List ℕ) (from : ℕ) (loan : GName) (p : Page) → Taken l lent from loan p
    → record { bytes = p.at; next = then_some p.more (from + p.at) } ≡ printed_of from (length lent) l
unfolding printed_of
printed_is l lent from loan p t = rw given_if (ap₂ (said from) t.place t.more)

-- The next page begins within the text, or where this one did.
pub next_within : (l : List ℕ) (from most bound : ℕ) → from ≤ bound → length l ≤ bound → from + length (window from most l) ≤ bound
unfolding window
next_within l from most bound h k = omega (arith, length-take most (drop from l), length-drop from l)

-- Where a page follows, this one is full and the text goes on behind it.
pub record Follows (l : List ℕ) (from most next : ℕ) : Type 0 where
  pub full : next ≡ from + most
  pub goes_on : next < length l

none_given : (t : Bool) (n : ℕ) → cond t (Some n) None ≡ None → t ≡ false
none_given true n e = absurd (none-some n (sym e))
none_given false n e = refl

module _ (l : List ℕ) (from most : ℕ) where
  pub follows : (next : ℕ) → (printed_of from most l).next ≡ Some next → Follows l from most next
  unfolding printed_of window
  follows next e =
      let bytes : ℕ = length (take most (drop from l)) in
      let given = cond_some (ltb (from + bytes) (length l)) (from + bytes) next e in
      let on : from + bytes < length l = ltb-true (from + bytes) (length l) given.0 in
      record { full = omega (arith, given.1, on, length-take most (drop from l), length-drop from l); goes_on = omega (arith, given.1, on) }

  -- Where none follows, the text ends with this page.
  pub ends : (printed_of from most l).next ≡ None → length l ≤ from + length (window from most l)
  unfolding printed_of
  ends e = ltb-false (from + length (window from most l)) (length l) (none_given _ (from + length (window from most l)) e)

-- ---- the pages in order are the text

pages_from_lem : (l : List ℕ) (most : ℕ) → 0 < most → (count from : ℕ) → from ≤ length l → length l - from < count → pages_from count from most l ≡ drop from l
unfolding pages_from printed_of window
pages_from_lem l most some zero from within enough = absurd (omega arith)
pages_from_lem l most some (suc count) from within enough =
    by_test (λ next. take most (drop from l) ++ option_map_or (λ n. pages_from count n most l) next [] ≡ drop from l) (ltb (from + length (take most (drop from l))) (length l))
    (λ e.
    let on : from + length (take most (drop from l)) < length l = ltb-true (from + length (take most (drop from l))) (length l) e in
    let whole : from + length (take most (drop from l)) ≡ from + most = omega (arith, length-take most (drop from l), length-drop from l) in
    ap (λ rest. take most (drop from l) ++ rest)
    (pages_from_lem l most some count (from + length (take most (drop from l))) (omega arith) (omega arith)
    ∙ ap (λ (n : ℕ). drop n l) whole ∙ sym (drop-drop most from l))
    ∙ take-append-drop most (drop from l))
    (λ e.
    let over : length l ≤ from + length (take most (drop from l)) = ltb-false (from + length (take most (drop from l))) (length l) e in
    append-nil (take most (drop from l))
    ∙ take_all most (drop from l) (omega (arith, length-take most (drop from l), length-drop from l)))

-- Pages of at least one byte, from the first up to the one that none follows, are the text: nothing is left out, and nothing stands twice. There
-- are no more of them than the text has bytes, and one.
pub pages_are_the_text : (l : List ℕ) (most count : ℕ) → 0 < most → length l < count → pages_from count 0 most l ≡ l
pages_are_the_text l most count some enough = pages_from_lem l most some count 0 (omega arith) (omega arith)
