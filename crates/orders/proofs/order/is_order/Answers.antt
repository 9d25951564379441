-- One place more is seen, and bytes that are no order are let off at the first that is no place. Assumes nothing.
use Rattle.std.proofs.Common.{refl, ◌∙◌, arith}
use Rattle.orders.proofs.Seen.{none_seen, one_seen, all_seen, beyond, other_size}
use Rattle.orders.proofs.order.is_order.Goals as goal

pub returns-then-order-rules : goal.returns-then-order-rules
returns-then-order-rules c = other_size _ _ c.if-order-rules.true

pub loop-byte-init : goal.loop-byte-init
loop-byte-init c = none_seen _ _ refl

pub returns-then-rules-place : goal.returns-then-rules-place
returns-then-rules-place c = beyond _ _ c.if-order-rules.false _ (omega arith) c.if-rules-place.true

pub loop-byte-preserved : goal.loop-byte-preserved
loop-byte-preserved c =
    one_seen _ _ _ c.loop-byte-test.true (omega (arith, c.if-rules-place.false)) c.with-seen.ensures c.loop-byte.invariant

pub returns : goal.returns
returns c = c.eq.ensures ∙ all_seen _ _ c.if-order-rules.false (omega arith) c.full.ensures c.loop-byte.invariant
