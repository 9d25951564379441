-- `with_found` by the filled tables: what is found by them are the model's cores and cuts. From what filled tables answer.
use Rattle.std.proofs.Common.{rules}
use Rattle.semantics.proofs.Laws.Filled.{few_rules}
use Rattle.finding.proofs.Filled.{callable_is, answered_is}
use Rattle.finding.proofs.find.with_found.Goals as goal

pub with_systems_over-requires : goal.with_systems_over-requires
with_systems_over-requires g c = record { callable = record { at = λ s bytes f e. (few_rules f, callable_is f c.requires.callable e) } }

pub returns : goal.returns
returns g c = let w = c.with_systems_over.ensures in answered_is w.filled w.shows w.leaves (search rules)
