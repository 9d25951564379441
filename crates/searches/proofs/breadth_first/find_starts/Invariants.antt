-- The loop of `searches::breadth_first::find_starts`: the start states of the set below t have been marked.
-- Assumes nothing: this is a definition.
use Rattle.systems.specs.BySystems.{start_among}
use Rattle.searches.proofs.Stored.{StartsStored}
use Rattle.searches.proofs.breadth_first.find_starts.Given as goal

abbrev pub invariant-loop-t : goal.invariant-loop-t
invariant-loop-t l = StartsStored (start_among l.systems l.fn.set.0) l.t l.x
