-- After i turns of `four_masks` the word has the bits of the first i rules.
use Rattle.std.proofs.Common.{◌≡◌, take}
use Rattle.sets.specs.Gathered.{set_of}
use Rattle.semantics.proofs.Fours.{in_four}
use Rattle.semantics.proofs.masks.four_masks.Given as goal

abbrev pub invariant-loop-i : goal.invariant-loop-i
invariant-loop-i l = l.four ≡ set_of 64 (in_four (take l.i l.words) l.t)
