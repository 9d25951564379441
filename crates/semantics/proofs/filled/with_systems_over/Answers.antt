-- Each of the three sizes has room for the masks of models of so many letters. From the law of an array's room.
use Rattle.std.proofs.Common.{arith, pow_mono}
use Rattle.semantics.proofs.filled.with_systems_over.Goals as goal

pub with_room-requires-clause-room : goal.with_room-requires-clause-room
with_room-requires-clause-room g c = omega (arith, pow_mono c.if-m-le2.true)

pub with_room-requires-then-m-le4-clause-room : goal.with_room-requires-then-m-le4-clause-room
with_room-requires-then-m-le4-clause-room g c = omega (arith, pow_mono c.if-m-le4.true)
