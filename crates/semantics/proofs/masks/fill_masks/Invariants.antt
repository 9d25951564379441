-- After s turns of `fill_masks` the table has the masks of the first s rows, and otherwise what was lent.
use Rattle.semantics.specs.Places.{mask_row_by}
use Rattle.semantics.proofs.Filling.{RowsFilled}
use Rattle.semantics.proofs.masks.fill_masks.Given as goal

abbrev pub invariant-loop-s : goal.invariant-loop-s
invariant-loop-s l = RowsFilled (mask_row_by l.rules.text.now l.rules.parts.now l.states) l.states l.initial.masks l.masks l.s
