-- The measure of `exprs::evaluation::evaluate`, which calls itself on each operand: the number of bytes left.
-- Assumes nothing.
use Rattle.std.proofs.Common.{length}
use Rattle.exprs.proofs.evaluation.+evaluate.Given as goal

abbrev pub decreases-evaluate : goal.decreases-evaluate
decreases-evaluate g l = length l.s.now
