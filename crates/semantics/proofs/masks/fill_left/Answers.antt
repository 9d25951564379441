-- `fill_left`: each turn fills the next entry. From the laws of four masks side by side and of a list that is filled from the front on.
use Rattle.std.proofs.Common.{arith}
use Rattle.semantics.proofs.Filling.{one_filled}
use Rattle.semantics.proofs.Fours.{quarter}
use Rattle.semantics.proofs.masks.fill_left.Goals as goal

pub loop-j-preserved : goal.loop-j-preserved
loop-j-preserved c = one_filled _ _ _ _ c.loop-j.invariant _ (omega arith) (quarter _ _)
