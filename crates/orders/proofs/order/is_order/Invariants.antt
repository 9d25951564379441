-- `seen` has the places that stand among the bytes so far. Assumes nothing.
use Rattle.orders.proofs.Seen.{Seen}
use Rattle.orders.proofs.order.is_order.Given as goal

abbrev pub invariant-loop-byte : goal.invariant-loop-byte
invariant-loop-byte l = Seen l.rules l.order l.byte-index l.seen.0
