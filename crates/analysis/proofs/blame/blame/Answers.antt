-- `blame` by the filled tables: their states are those of the log, and what the log says by them is what it says of the model.
-- From what filled tables answer.
use Rattle.std.proofs.Common.{rules}
use Rattle.semantics.proofs.Laws.Filled.{few_rules}
use Rattle.analysis.proofs.Filled.{its_log, blame_is}
use Rattle.analysis.proofs.blame.blame.Goals as goal

pub with_systems-requires : goal.with_systems-requires
with_systems-requires c = record { callable = λ s f. search (rules, few_rules, its_log) }

pub returns : goal.returns
returns c = blame_is c.with_systems.ensures.1 c.requires.log (search rules)
