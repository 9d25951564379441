-- After j turns of `fill_left` the first j entries are the masks that stand side by side, and the others are as they came.
use Rattle.semantics.proofs.Filling.{FilledTo}
use Rattle.semantics.proofs.Fours.{one_of_four}
use Rattle.semantics.proofs.masks.fill_left.Given as goal

abbrev pub invariant-loop-j : goal.invariant-loop-j
invariant-loop-j l = FilledTo (one_of_four l.four) l.initial.part l.part l.j
