-- `lines::expressions::state_line` says where the value of a line with the key begins, unless it is no legal expression. From the law of such lines.
use Rattle.std.proofs.Common.{rules}
use Rattle.lines.proofs.Laws.Ended.{state_by_value}
use Rattle.lines.proofs.expressions.state_line.Goals as goal

pub returns : goal.returns
returns c = state_by_value _ _ _ _ c.keyed_line.ensures (λ v r k. search rules)
