-- `reached` by the filled tables: a set has by them the reached states that it means. From what filled tables answer.
use Rattle.std.proofs.Common.{rules}
use Rattle.searches.specs.Stored.{reached_of}
use Rattle.searches.proofs.Laws.Collecting.{same_reached_of}
use Rattle.analysis.proofs.Filled.{search_is}
use Rattle.analysis.proofs.reached.reached.Goals as goal

pub returns : goal.returns
returns c = search_is c.with_systems.ensures.1 reached_of (λ N M. same_reached_of) c.requires.set_bound (search rules)
