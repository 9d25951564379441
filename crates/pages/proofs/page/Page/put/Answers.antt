-- A turn puts the next byte; behind the last turn nothing is left to put.
use Rattle.std.proofs.Common.{arith}
use Rattle.pages.specs.Page.{put}
use Rattle.pages.specs.Laws.Putting.{next, ended, single_bytes}
use Rattle.pages.proofs.page.Page.put.Goals as goal

pub loop-b-preserved : goal.loop-b-preserved
unfolding put
loop-b-preserved c = next _ _ _ _ _ c.loop-b.invariant (omega arith) _ c.put_byte.ensures

pub returns : goal.returns
returns c = rw single_bytes at (ended _ _ _ _ _ c.loop-b.invariant (omega arith))
