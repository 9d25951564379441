-- A turn puts the line of the next state; behind the last turn nothing is left to put.
use Rattle.std.proofs.Common.{arith}
use Rattle.pages.specs.Laws.Putting.{next, ended}
use Rattle.sections.proofs.rows.state_lines.Goals as goal

pub loop-state-preserved : goal.loop-state-preserved
loop-state-preserved c = next _ _ _ _ _ c.loop-state.invariant (omega arith) _ c.number_line.ensures

pub returns : goal.returns
returns c = ended _ _ _ _ _ c.loop-state.invariant (omega arith)
