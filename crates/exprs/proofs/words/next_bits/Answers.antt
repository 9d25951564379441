-- `exprs::words::next_bits` meets its contract: the first six letters are bits of the state in its block, the others are bits of the block.
-- Assumes nothing.
use native.Mathlib.Omega.{arith}
use Rattle.exprs.proofs.Letters.{low_letter, high_letter}
use Rattle.exprs.proofs.words.next_bits.Goals as goal

pub returns-then-place-lt6 : goal.returns-then-place-lt6
returns-then-place-lt6 c = low_letter _ _ _ (omega (arith, c.if-place-lt6.true)) c.having.ensures

pub returns-else-place-lt6 : goal.returns-else-place-lt6
returns-else-place-lt6 c = high_letter _ _ _ _ (omega (arith, c.if-place-lt6.false)) c.bit_at.ensures c.same_bits.ensures
