-- After i turns of `rule_words` the first i words are those of the first i rules.
use Rattle.std.proofs.Common.{◌≡◌, length, take, map}
use Rattle.semantics.specs.Places.{word_at}
use Rattle.semantics.proofs.masks.rule_words.Given as goal

abbrev pub invariant-loop-i : goal.invariant-loop-i
invariant-loop-i l = (length l.words ≡ 16) × (take l.i l.words ≡ map (λ p. word_at l.rules.text.now p.step l.s l.block) (take l.i l.rules.parts.now))
