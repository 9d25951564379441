-- `lines::counts::count_line` says the count that the value of a line with the key writes. From the law of such lines.
use Rattle.std.proofs.Common.{rules}
use Rattle.lines.proofs.Laws.Ended.{count_by_value}
use Rattle.lines.proofs.counts.count_line.Goals as goal

pub returns : goal.returns
returns c = count_by_value _ _ _ _ c.keyed_line.ensures (λ v r k. search rules)
