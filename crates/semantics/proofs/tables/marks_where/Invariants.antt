-- After s turns of `marks_where` the marks of the states below s are those that the test gave.
use Rattle.semantics.proofs.Filling.{MarkedTo}
use Rattle.semantics.proofs.tables.marks_where.Given as goal

abbrev pub invariant-loop-s : goal.invariant-loop-s
invariant-loop-s g l = MarkedTo (goal.F-post g l.test) l.states l.mark-items l.s
