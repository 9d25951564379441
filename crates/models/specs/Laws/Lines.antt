-- What follows so many lines of a text. From the definition of `after_lines`. Assumes nothing.
use Rattle.std.specs.Prelude.{ℕ, zero, suc, ◌+◌, ◌≡◌, refl, List}
use Rattle.std.proofs.Common.{sym, ap, ◌∙◌, add-zero, add-suc}
use Rattle.bodies.specs.Properties.{after_line}
use Rattle.models.specs.Refusals.{after_lines}

pub lines_more : (n : ℕ) (s : List ℕ) → after_lines (suc n) s ≡ after_line (after_lines n s)
unfolding after_lines
lines_more zero s = refl
lines_more (suc n) s = lines_more n (after_line s)

pub lines_add : (m n : ℕ) (s : List ℕ) → after_lines (m + n) s ≡ after_lines n (after_lines m s)
unfolding after_lines
lines_add m zero s = rw add-zero
lines_add m (suc n) s = rw add-suc (lines_more (m + n) s ∙ ap after_line (lines_add m n s) ∙ sym (lines_more n (after_lines m s)))
