-- `same` tells equal lists. From the library's law of the test by which it is defined.
use Rattle.std.specs.Prelude.{ℕ, ◌≡◌, true, false, List}
use Rattle.std.proofs.lemmas.Slice.Eq.{bytes_eq-Decides}
use mathlib.Mathlib.Data.Bool.Basic.{eq-false_of_not-eq-true}
use Rattle.slices.specs.Same.{same}

pub same_true : (a b : List ℕ) → a ≡ b → same a b ≡ true
unfolding same
same_true a b e = (bytes_eq-Decides a b).1 e

pub same_is : (a b : List ℕ) → same a b ≡ true → a ≡ b
unfolding same
same_is a b e = (bytes_eq-Decides a b).0 e

pub same_false : (a b : List ℕ) → (a ≡ b → ⊥) → same a b ≡ false
same_false a b n = eq-false_of_not-eq-true (λ q. n (same_is a b q))
