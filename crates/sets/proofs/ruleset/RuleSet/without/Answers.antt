-- `RuleSet::without`: the rules of the set that are among all others than this one. From the law of these.
use Rattle.std.proofs.Common.{◌^◌, arith}
use Rattle.std.proofs.Math.Pow.{pow-lt}
use Rattle.std.proofs.lemmas.Grind.{common_steps}
use Rattle.sets.specs.Sets.{without}
use Rattle.sets.specs.Laws.Sets.{and_rest}
use Rattle.sets.proofs.ruleset.RuleSet.without.Goals as goal

pub returns : goal.returns
unfolding without
returns c = let l = and_rest 16 c.args.self.0 (2 ^ c.args.rule) (omega arith) (pow-lt {j = 16} c.requires) in grind (arith, common_steps)
