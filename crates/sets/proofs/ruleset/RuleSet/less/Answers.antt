-- `RuleSet::less`: the rules of the set that are among all others than the second's. From the law of these.
use Rattle.std.proofs.Common.{arith}
use Rattle.sets.specs.Laws.Sets.{and_rest}
use Rattle.sets.proofs.ruleset.RuleSet.less.Goals as goal

pub returns : goal.returns
returns c = and_rest 16 c.args.self.0 c.args.gone.0 (omega arith) (omega arith)
