-- The packed number gives each part back, where each part fits its place.
-- By arithmetic, and the two cases of the verdict.
use Rattle.std.specs.Prelude.{◌*◌, ◌^◌, ◌<◌, ◌≡◌, Bool, true, false, cond}
use Rattle.std.proofs.Common.{arith}
use Rattle.packing.specs.declared.parts.Parts.{Parts}
use Rattle.packing.specs.Packing.{packed, InRange, Unpacked}

flag : (b : Bool) → (cond b (2 ^ 40) 0 ≡ 2 ^ 40 * cond b 1 0) × (cond b 1 0 < 2)
flag true = omega arith
flag false = omega arith

pub unpacked : (p : Parts) → InRange p → Unpacked p (packed p)
unfolding packed
unpacked p f = omega (arith, flag p.holds)
