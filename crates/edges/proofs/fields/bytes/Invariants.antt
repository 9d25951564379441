-- Each turn leaves less of the field.
use Rattle.std.proofs.Common.{length}
use Rattle.edges.proofs.fields.bytes.Given as goal

abbrev pub decreases-loop-b : goal.decreases-loop-b
decreases-loop-b l = length l.left
