-- The first t marks are made, and the others are as they came. Assumes nothing.
use Rattle.std.proofs.Common.{eqb, get_or, bit_and, bit_or}
use mir.Val.{bool_byte}
use Rattle.verdicts.proofs.Reaching.{Passed}
use Rattle.verdicts.proofs.verdict.mark_row.Given as goal

abbrev pub invariant-loop-t : goal.invariant-loop-t
invariant-loop-t l = Passed (λ k. bit_or (get_or l.fn.marks k 0) (bool_byte (eqb (bit_and (get_or l.row k 0) l.set.0) l.set.0))) l.fn.marks l.marks l.t
