-- After s turns of `fill_starts` the first s entries are start masks, and the others are as they came.
use Rattle.semantics.specs.Places.{start_mask_by}
use Rattle.semantics.proofs.Filling.{FilledTo}
use Rattle.semantics.proofs.starts.fill_starts.Given as goal

abbrev pub invariant-loop-s : goal.invariant-loop-s
invariant-loop-s l = FilledTo (start_mask_by l.rules.text.now l.rules.parts.now) l.initial.row l.row l.s
