-- Before turn k of `fill_block` the first 4 * k entries are masks, and the others are as they came.
use Rattle.std.specs.Prelude.{◌*◌}
use Rattle.semantics.proofs.Filling.{FilledTo}
use Rattle.semantics.proofs.Fours.{mask_in}
use Rattle.semantics.proofs.masks.fill_block.Given as goal

abbrev pub invariant-loop-k : goal.invariant-loop-k
invariant-loop-k l = FilledTo (mask_in l.words) l.initial.part l.part (4 * l.k)
