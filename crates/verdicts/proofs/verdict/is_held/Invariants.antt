-- Every marked state is reached, and a walked row leads to marked states and is that of a state that is not bad. A row less is left after each turn.
-- Assumes nothing.
use Rattle.verdicts.proofs.Reaching.{Judging, rows_left}
use Rattle.verdicts.proofs.verdict.is_held.Given as goal

abbrev pub invariant-loop-next : goal.invariant-loop-next
invariant-loop-next l = Judging l.systems l.set.0 l.marks l.next

abbrev pub decreases-loop-next : goal.decreases-loop-next
decreases-loop-next l = rows_left l.systems.tables.now.states l.marks
