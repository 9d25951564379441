-- The three kinds of rules for any judgement h of rule sets: MUST (`Lists`), MAY, and the rules in no core.
-- Assumes nothing: these are definitions.
use Rattle.std.specs.Prelude.{ℕ, ◌^◌, ◌<◌, ◌≡◌, ◌⊎◌, Bool, true, not, ◌&&◌, List, [], ◌∷◌}
use Rattle.std.specs.Int.Bits.{bit_or}
use Rattle.sets.specs.Bit.{has}
use Rattle.sets.specs.Gathered.{set_of}
use Rattle.sets.specs.Lists.{cores_of, must_of}

-- Rule i is in some set of R rules that is P.
abbrev pub InSome : ℕ → (ℕ → Type 0) → ℕ → Type 0
InSome R P i = (S : ℕ) × (S < 2 ^ R) × P S × (has S i ≡ true)

-- What the sets of a list have together; if there is none, set 0.
unfoldable pub together : List ℕ → ℕ
together [] = 0
together (S ∷ l) = bit_or S (together l)

-- The rules that are in some core.
unfoldable pub some_of : ℕ → (ℕ → Bool) → ℕ
unfolding together cores_of
some_of R h = together (cores_of R h)

-- MAY: the rules that are in some core, but not in MUST.
unfoldable pub may_of : ℕ → (ℕ → Bool) → ℕ
unfolding has set_of some_of must_of
may_of R h = let must = must_of R h in let some = some_of R h in set_of R (λ i. has some i && not (has must i))

-- The rules that are in no core; if there is no core, every rule.
unfoldable pub irrelevant_of : ℕ → (ℕ → Bool) → ℕ
unfolding has set_of some_of
irrelevant_of R h = let some = some_of R h in set_of R (λ i. not (has some i))

-- Each of R rules is in exactly one of three sets, and none of these has another rule.
pub record Sorted (R must may irrelevant : ℕ) : Type 0 where
  pub each : (i : ℕ) → i < R → (has must i ≡ true) ⊎ ((has may i ≡ true) ⊎ (has irrelevant i ≡ true))
  pub must_or_may : (i : ℕ) → has must i ≡ true → ¬ (has may i ≡ true)
  pub must_or_irrelevant : (i : ℕ) → has must i ≡ true → ¬ (has irrelevant i ≡ true)
  pub may_or_irrelevant : (i : ℕ) → has may i ≡ true → ¬ (has irrelevant i ≡ true)
  pub must_rules : must < 2 ^ R
  pub may_rules : may < 2 ^ R
  pub irrelevant_rules : irrelevant < 2 ^ R
