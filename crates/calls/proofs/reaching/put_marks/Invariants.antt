-- The bytes of the states below s stand at the front.
use Rattle.std.proofs.Common.{◌≡◌}
use Rattle.calls.proofs.ReachedFacts.{marks_put}
use Rattle.calls.proofs.reaching.put_marks.Given as goal

abbrev pub invariant-loop-s : goal.invariant-loop-s
invariant-loop-s l = l.bytes ≡ marks_put l.marks l.initial.bytes l.s
