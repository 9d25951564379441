-- `exprs::words::same_bits` meets its contract: all 64 places, or none. Assumes nothing.
use Rattle.sets.specs.Laws.Gathered.{set_of_none, set_of_all}
use Rattle.exprs.proofs.words.same_bits.Goals as goal

pub returns-then-v : goal.returns-then-v
returns-then-v c = rw c.if-v.true (set_of_all 64)

pub returns-else-v : goal.returns-else-v
returns-else-v c = rw c.if-v.false (set_of_none 64)
