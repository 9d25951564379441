-- The loop of `searches::breadth_first::explore`: the first i runs have been tried, and there are at most 128.
-- Assumes nothing: these are definitions.
use Rattle.std.proofs.Common.{◌-◌}
use Rattle.systems.specs.BySystems.{system_among}
use Rattle.searches.specs.Search.{explored}
use Rattle.searches.specs.Stored.{Stores}
use Rattle.searches.proofs.breadth_first.explore.Given as goal

abbrev pub invariant-loop-i : goal.invariant-loop-i
invariant-loop-i l = Stores (explored (system_among l.systems l.set.0) l.i) l.x

abbrev pub decreases-loop-i : goal.decreases-loop-i
decreases-loop-i l = 128 - l.i
