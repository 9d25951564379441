-- What one page adds to those before it: on it stand the next bytes of the text, and where none follows, the text is written whole.
use Rattle.std.proofs.Common.{ℕ, suc, ◌+◌, ◌-◌, ◌≤◌, ◌<◌, ◌≡◌, sym, ap, ◌∙◌, Option, Some, None, refl, List, ◌++◌, arith, length, take, drop, take_all}
use Rattle.std.proofs.Math.Seq.{take-add, take-append_seam}
use Rattle.sets.specs.Lists.{overwritten}
use Rattle.pages.specs.declared.page.Printed.{Printed}
use Rattle.pages.specs.Page.{window, printed_of}
use Rattle.pages.specs.Laws.Page.{window_fits, page_length, follows, ends}

-- what is written of a text where the next page begins so, or none follows, and how much is left
abbrev pub written : Option ℕ → List ℕ → List ℕ
written (Some from) l = take from l
written None l = l

abbrev pub left : Option ℕ → List ℕ → ℕ
left (Some from) l = suc (length l - from)
left None l = 0

-- what a call of `report` says of a text and a page of so many bytes, and what it leaves on the page
module _ (l page after : List ℕ) (from : ℕ) (r : Printed) (value : r ≡ printed_of from (length page) l) (page_after : after ≡ overwritten (window from (length page) l) page) where
  pub same_page : length after ≡ length page
  same_page = ap length page_after ∙ page_length l page from

  pub within : r.bytes ≤ length after
  unfolding printed_of
  within = omega (arith, ap (λ (p : Printed). p.bytes) value, window_fits l page from, same_page)

  -- what is written of the page is its window of the text
  pub written_is : take r.bytes after ≡ window from (length page) l
  unfolding printed_of overwritten
  written_is =
      let w : List ℕ = window from (length page) l in
      ap (λ n. take n after) (ap (λ (p : Printed). p.bytes) value)
      ∙ ap (λ m. take (length w) m) page_after
      ∙ take-append_seam w (drop (length w) page)

  next_is : (o : Option ℕ) → r.next ≡ o → (printed_of from (length page) l).next ≡ o
  next_is o e = sym (ap (λ (p : Printed). p.next) value) ∙ e

  -- The page adds the text's next bytes to those that are written.
  pub page_written : take from l ++ take r.bytes after ≡ written r.next l
  unfolding window
  page_written = ap (λ m. take from l ++ m) written_is ∙ sym (take-add from (length page) l) ∙ go r.next refl
    where
      go : (o : Option ℕ) → r.next ≡ o → take (from + length page) l ≡ written o l
      go (Some next) e = ap (λ n. take n l) (sym (follows l from (length page) next (next_is (Some next) e)).full)
      go None e = take_all (from + length page) l (omega (arith, ends l from (length page) (next_is None e), window_fits l page from))

  pub less_left : 0 < length page → left r.next l < left (Some from) l
  less_left some = go r.next refl
    where
      go : (o : Option ℕ) → r.next ≡ o → left o l < left (Some from) l
      go (Some next) e =
          let f = follows l from (length page) next (next_is (Some next) e) in
          omega (arith, f.full, f.goes_on)
      go None e = omega arith
