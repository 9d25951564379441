-- `exprs::evaluation::evaluate` meets its contract. What stands at the start of the slice goes by its first byte (`proofs/Operands.antt`),
-- and each call answers of its own part of the slice. Assumes nothing.
use Rattle.std.proofs.Common.{rules}
use Rattle.exprs.proofs.Operands.{at_part, one_joined, both_joined}
use Rattle.exprs.proofs.evaluation.+evaluate.Goals as goal

pub returns-in_err-y-in-And : goal.returns-in_err-y-in-And
returns-in_err-y-in-And g t c =
    rw c.from_residual-in_err-y-in-And.ensures (one_joined _ _ _ c.in_ok-first.ensures.cases.0 c.classify-t.ensures c.in_ok-x-in-And.ensures (search rules) (at_part _ _ _ c.in_ok-first.rest.now _ c.in_err-y-in-And.ensures))

pub returns-in_ok-y-in-And : goal.returns-in_ok-y-in-And
returns-in_ok-y-in-And g t c =
    rw c.binary.ensures (both_joined _ _ _ c.in_ok-first.ensures.cases.0 c.classify-t.ensures c.in_ok-x-in-And.ensures (at_part _ _ _ c.in_ok-first.rest.now _ c.in_ok-y-in-And.ensures) (search rules))
