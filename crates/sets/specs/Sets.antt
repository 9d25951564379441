-- Rule sets as numbers: parts, proper parts, sharing a rule and being apart, and the order of the lists.
-- Assumes nothing: these are definitions.
use Rattle.std.specs.Prelude.{ℕ, ◌-◌, ◌^◌, ◌<◌, ◌≡◌, ◌≢◌, Bool, true, eqb}
use Rattle.std.specs.Int.Bits.{bit_and, bit_or}
use Rattle.std.specs.Int.Count.{ones}
use Rattle.sets.specs.Bit.{has}

infix 50 ◌⊑◌
-- S is a part of T: every rule of S is a rule of T.
pub record ◌⊑◌ (S T : ℕ) : Type 0 where
  pub every : (i : ℕ) → has S i ≡ true → has T i ≡ true

-- A part that is not the whole.
pub record ProperPart (S T : ℕ) : Type 0 where
  pub within : S ⊑ T
  pub other : S ≢ T

-- S shares a rule with T.
pub record Shares (S T : ℕ) : Type 0 where
  pub rule : ℕ
  pub in_first : has S rule ≡ true
  pub in_second : has T rule ≡ true

-- S comes before T in a list: it has fewer rules, or as many and a smaller number. How many rules a set has is its count of ones.
pub data Before (S T : ℕ) : Type 0 where
  fewer : ones S < ones T → Before S T
  as_many : ones S ≡ ones T → S < T → Before S T

-- The test for a part: what S and T have in common is S.
unfoldable pub part : ℕ → ℕ → Bool
part S T = eqb (bit_and S T) S

-- The test for sets apart, which share no rule: they have nothing in common.
unfoldable pub apart : ℕ → ℕ → Bool
apart S T = eqb (bit_and S T) 0

-- S without rule i, and S with rule i, whether it is in S or not.
unfoldable pub without : ℕ → ℕ → ℕ
without S i = S - bit_and S (2 ^ i)

unfoldable pub with : ℕ → ℕ → ℕ
with S i = bit_or S (2 ^ i)
