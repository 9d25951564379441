-- `kinds` by the tables of the cores and the cuts: what is read off the cores are the kinds of the model's rules. From what is read off these tables.
use Rattle.std.proofs.Common.{rules}
use Rattle.finding.proofs.Filled.{kinds_are}
use Rattle.finding.proofs.kinds.kinds.Goals as goal

pub returns : goal.returns
returns c = kinds_are c.with_found.ensures.found (search rules)
