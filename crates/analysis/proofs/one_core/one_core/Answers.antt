-- `one_core` by the filled tables: the order is one of their rules, and what is left is what the model leaves. From what filled tables answer.
use Rattle.std.proofs.Common.{rules}
use Rattle.semantics.proofs.Laws.Filled.{few_rules}
use Rattle.analysis.proofs.Filled.{its_order, one_core_is}
use Rattle.analysis.proofs.one_core.one_core.Goals as goal

pub with_systems-requires : goal.with_systems-requires
with_systems-requires c = record { callable = λ s f. search (rules, few_rules, its_order) }

pub returns : goal.returns
returns c = one_core_is c.with_systems.ensures.1 c.args.order.now (search rules)
