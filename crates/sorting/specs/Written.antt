-- What it is that a list of sets was written over the front of lent bytes, and that the sizes of marked sets are noted.
-- From the bytes of a list. These are definitions.
use Rattle.std.specs.Prelude.{ℕ, ◌*◌, ◌<◌, ◌≡◌, Bool, true, List, length}
use Rattle.std.specs.Int.Count.{ones}
use Rattle.sets.specs.Bit.{has}
use Rattle.sets.specs.Lists.{bytes_of, overwritten}

-- The list l was written over the front of the bytes `before`; they are `after` now, and the next free place is `at`.
pub record Written (l : List ℕ) (before after : List ℕ) (at : ℕ) : Type 0 where
  pub place : at ≡ 2 * length l
  pub bytes : after ≡ overwritten (bytes_of l) before

-- Bit k of `sizes` is set if one of the sets below n that pass the test q has k rules.
pub record Noted (q : ℕ → Bool) (n sizes : ℕ) : Type 0 where
  pub each : (S : ℕ) → S < n → q S ≡ true → has sizes (ones S) ≡ true
