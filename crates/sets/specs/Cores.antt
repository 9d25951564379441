-- Cores and cuts for any judgement h of rule sets, as meanings and as tests; h S is true where set S holds and false where it is broken.
-- Assumes nothing: these are definitions.
use Rattle.std.specs.Prelude.{ℕ, zero, suc, ◌-◌, ◌^◌, ◌<◌, ◌≡◌, Bool, true, false, not, ◌&&◌}
use Rattle.sets.specs.Bit.{full}
use Rattle.sets.specs.Sets.{◌⊑◌, ProperPart, part}

-- S is P, and no proper part of S is.
pub record Least (P : ℕ → Type 0) (S : ℕ) : Type 0 where
  pub itself : P S
  pub no_part : (T : ℕ) → ProperPart T S → ¬ P T

-- A core: a set that holds and has no proper part that holds. (Standard term: minimal inductive validity core.)
unfoldable pub Core : (ℕ → Bool) → ℕ → Type 0
Core h = Least (λ S. h S ≡ true)

-- A cut: a set whose removal from all R rules leaves a broken set, while no proper part of it does that. (Standard term: minimal cut set.)
unfoldable pub Cut : ℕ → (ℕ → Bool) → ℕ → Type 0
Cut R h = Least (λ S. h (full R - S) ≡ false)

-- A judgement of R rules by which a set holds if a part of it does.
pub record Monotone (R : ℕ) (h : ℕ → Bool) : Type 0 where
  pub more : (S T : ℕ) → T < 2 ^ R → S ⊑ T → h S ≡ true → h T ≡ true

-- No number below n passes the test q.
unfoldable pub none_below : (ℕ → Bool) → ℕ → Bool
none_below q zero = true
none_below q (suc n) = let rest = none_below q n in not (q n) && rest

-- S passes the test q, and no number below S that is a part of S does. A proper part of S is below S; q is asked of no other set.
unfoldable pub is_least : (ℕ → Bool) → ℕ → Bool
unfolding none_below part
is_least q S = let rest = none_below (λ T. let passes = q T in part T S && passes) S in q S && rest

-- The removal of S from all R rules leaves a broken set.
unfoldable pub breaks : ℕ → (ℕ → Bool) → ℕ → Bool
breaks R h S = not (h (full R - S))

-- The test for a core, and the test for a cut.
unfoldable pub is_core : (ℕ → Bool) → ℕ → Bool
unfolding is_least
is_core h = is_least h

unfoldable pub is_cut : ℕ → (ℕ → Bool) → ℕ → Bool
unfolding is_least breaks
is_cut R h = is_least (breaks R h)
