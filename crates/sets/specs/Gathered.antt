-- The set of those of the first n numbers that pass a test, and a word of those that pass a test for each rule of a set.
-- Assumes nothing: these are definitions.
use Rattle.std.specs.Prelude.{ℕ, zero, suc, ◌+◌, ◌*◌, ◌^◌, ◌≡◌, Bool, true, false, not, ◌&&◌}
use Rattle.sets.specs.Bit.{has}
use Rattle.sets.specs.Cores.{none_below}

-- 1 for a test that is passed, else 0.
unfoldable pub one : Bool → ℕ
one true = 1
one false = 0

-- The set of those of the first n numbers that pass the test p.
unfoldable pub set_of : ℕ → (ℕ → Bool) → ℕ
unfolding one
set_of zero p = 0
set_of (suc n) p = one (p n) * 2 ^ n + set_of n p

-- T fits, by a test for each of the first six rules, at each of them that is in the set S.
unfoldable pub fits_at : (ℕ → ℕ → Bool) → ℕ → ℕ → Bool
unfolding none_below has
fits_at fits S T = none_below (λ i. has S i && not (fits i T)) 6

-- The word has those of the numbers below 64 that fit at each rule of S, whatever test it is by which each rule's word was gathered.
abbrev pub AgreesAt : (ℕ → ℕ → Type 0) → ℕ → ℕ → Type 0
AgreesAt gives S word =
    (fits : ℕ → ℕ → Bool) → ((i bits : ℕ) → gives i bits → bits ≡ set_of 64 (fits i)) → word ≡ set_of 64 (λ T. fits_at fits S T)
