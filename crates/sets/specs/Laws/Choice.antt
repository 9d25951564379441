-- A choice by a test: what is true of both branches, each under its own answer of the test, is true of the branch taken; tests that
-- are true together are the same test; and where one of two tests is passed, it is the first or the second. By the two cases of a test.
use Rattle.std.specs.Prelude.{◌≡◌, refl, ◌⊎◌, Bool, true, false, cond, ◌||◌}
use Rattle.std.proofs.Common.{sym, inl, inr}

pub by_test : {A : Type 0} (P : A → Type 0) (t : Bool) {x y : A} → (t ≡ true → P x) → (t ≡ false → P y) → P (cond t x y)
by_test P true f g = f refl
by_test P false f g = g refl

pub alike : (a b : Bool) → (a ≡ true → b ≡ true) → (b ≡ true → a ≡ true) → a ≡ b
alike true b f g = sym (f refl)
alike false true f g = g refl
alike false false f g = refl

pub either : (a b : Bool) → (a || b) ≡ true → (a ≡ true) ⊎ (b ≡ true)
either true b e = inl refl
either false b e = inr e
