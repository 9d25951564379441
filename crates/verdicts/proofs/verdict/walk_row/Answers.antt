-- The row of a state is a part of the masks. Assumes nothing.
use Rattle.std.proofs.Common.{arith}
use Rattle.verdicts.proofs.Reaching.{row_walked}
use Rattle.verdicts.proofs.verdict.walk_row.Goals as goal

pub returns : goal.returns
returns c = row_walked _ _ _ (omega arith) (rw c.row.ensures.row at c.mark_row.ensures)
