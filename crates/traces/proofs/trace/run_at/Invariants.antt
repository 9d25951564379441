-- The loop of `traces::trace::run_at`: of the run, the states behind those of the one in hand are written. The measure is the room that is left.
-- Assumes nothing: these are definitions.
use Rattle.std.proofs.Common.{[], get_or, length, ◌-◌}
use Rattle.traces.specs.Stored.{runs_in}
use Rattle.traces.proofs.Traces.{Writes, left_of}
use Rattle.traces.proofs.trace.run_at.Given as goal

abbrev pub invariant-loop-next : goal.invariant-loop-next
invariant-loop-next l = Writes (get_or (runs_in l.runs) l.place []) (left_of l.runs l.next) l.path.items

abbrev pub decreases-loop-next : goal.decreases-loop-next
decreases-loop-next l = 128 - length l.path.items
