-- The loop of `marks::table::clear_below`: w is below the high rules of the set, and the words that are below them and after w are cleared.
use Rattle.std.proofs.Common.{ℕ, ◌^◌, ◌<◌, Bool, ◌&&◌, List, ltb, length}
use Rattle.sets.specs.Sets.{◌⊑◌, part}
use Rattle.marks.proofs.Clearing.{Cleared}
use Rattle.marks.proofs.table.clear_below.Given as goal

-- the words below `high` that are after w
abbrev pub passed : ℕ → ℕ → ℕ → Bool
passed high w u = ltb w u && part u high

pub record Clearing (high bits : ℕ) (before table : List ℕ) (w : ℕ) : Type 0 where
  pub at : w ⊑ high
  pub inside : w < length table
  pub small : bits < 2 ^ 64
  pub cleared : Cleared (passed high w) bits before table

abbrev pub invariant-loop-w : goal.invariant-loop-w
invariant-loop-w l = Clearing l.high l.bits l.initial.table l.table l.w

abbrev pub decreases-loop-w : goal.decreases-loop-w
decreases-loop-w l = l.w
