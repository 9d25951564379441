-- The loop of `searches::breadth_first::try_row`: the pairs with the states below t have been tried, and no more than t are counted.
-- Assumes nothing: this is a definition.
use Rattle.std.proofs.Common.{◌+◌, ◌≤◌}
use Rattle.systems.specs.BySystems.{step_among}
use Rattle.searches.specs.Stored.{last_at}
use Rattle.searches.proofs.Stored.{PairsStored}
use Rattle.searches.proofs.breadth_first.try_row.Given as goal

abbrev pub invariant-loop-t : goal.invariant-loop-t
invariant-loop-t l = record {
  few : l.x.pairs ≤ l.fn.x.pairs + l.t;
  stored : PairsStored l.systems.tables.now.states (step_among l.systems l.set.0 (last_at l.fn.x l.i)) l.i l.fn.x l.t l.x;
}
