-- After i turns of `start_mask` the set has those of the first i rules whose start part the state meets.
use Rattle.std.proofs.Common.{◌≡◌, get_or}
use Rattle.sets.specs.Gathered.{set_of}
use Rattle.rule_lines.specs.RuleLines.{no_parts}
use Rattle.semantics.specs.Places.{meets_start}
use Rattle.semantics.proofs.starts.start_mask.Given as goal

abbrev pub invariant-loop-i : goal.invariant-loop-i
invariant-loop-i l = l.met.0 ≡ set_of l.i (λ j. meets_start l.rules.text.now (get_or l.rules.parts.now j no_parts) l.s)
