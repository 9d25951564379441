-- `list` by the tables of the cores and the cuts: what is written is the list that is meant. From what is read off these tables.
use Rattle.std.proofs.Common.{rules}
use Rattle.sorting.specs.Which.{listed}
use Rattle.finding.proofs.Filled.{cores_listed, cuts_listed}
use Rattle.finding.proofs.lists.list.Goals as goal

pub returns-clause-value : goal.returns-clause-value
unfolding listed
returns-clause-value c = let w = c.with_found.ensures in let a = cores_listed w.found in let b = cuts_listed w.found in search rules

pub returns-clause-lent_after : goal.returns-clause-lent_after
unfolding listed
returns-clause-lent_after c = let w = c.with_found.ensures in let a = cores_listed w.found in let b = cuts_listed w.found in search rules
