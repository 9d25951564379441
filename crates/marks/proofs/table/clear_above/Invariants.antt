-- The loop of `marks::table::clear_above`: w is above the high rules of the set, and the words that are above them and before w are cleared.
use Rattle.std.proofs.Common.{ℕ, ◌-◌, ◌^◌, ◌<◌, Bool, ◌&&◌, List, ltb, length}
use Rattle.sets.specs.Sets.{◌⊑◌, part}
use Rattle.marks.proofs.Clearing.{Cleared}
use Rattle.marks.proofs.table.clear_above.Given as goal

-- the words above `high` that are before w
abbrev pub passed : ℕ → ℕ → ℕ → Bool
passed high w u = ltb u w && part high u

pub record Clearing (high bits : ℕ) (before table : List ℕ) (w : ℕ) : Type 0 where
  pub at : high ⊑ w
  pub small : bits < 2 ^ 64
  pub cleared : Cleared (passed high w) bits before table

abbrev pub invariant-loop-w : goal.invariant-loop-w
invariant-loop-w l = Clearing l.high l.bits l.initial.table l.table l.w

abbrev pub decreases-loop-w : goal.decreases-loop-w
decreases-loop-w l = length l.table - l.w
