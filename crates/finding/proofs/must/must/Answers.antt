-- `must` by the filled tables: MUST by them is that of the model. From what filled tables answer.
use Rattle.std.proofs.Common.{rules}
use Rattle.semantics.proofs.Laws.Filled.{few_rules}
use Rattle.finding.proofs.Filled.{must_is}
use Rattle.finding.proofs.must.must.Goals as goal

pub with_systems-requires : goal.with_systems-requires
with_systems-requires c = record { callable = λ s f. search (rules, few_rules) }

pub returns : goal.returns
returns c = must_is c.with_systems.ensures.1 (search rules)
