-- `sets::words::above`: the sets of which a set is a part are those that have each of its rules.
use Rattle.std.proofs.Common.{◌∙◌, rules}
use Rattle.sets.specs.Bit.{has}
use Rattle.sets.specs.Laws.Gathered.{set_of_same}
use Rattle.sets.proofs.Passing.{above_fits}
use Rattle.sets.proofs.words.above.Goals as goal

pub returns : goal.returns
returns c = c.agreeing.ensures (λ i t. has t i) (λ i bits p. search rules) ∙ set_of_same 64 _ _ (λ t l. above_fits c.args.set c.requires t)
