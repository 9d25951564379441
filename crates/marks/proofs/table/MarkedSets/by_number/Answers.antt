-- `MarkedSets::by_number`: all from set 0 on are those that are selected.
use Rattle.sets.specs.Laws.Next.{passing_select}
use Rattle.marks.proofs.table.MarkedSets.by_number.Goals as goal

pub returns : goal.returns
returns c = rw c.set_count.ensures (passing_select _ _)
