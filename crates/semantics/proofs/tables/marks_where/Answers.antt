-- `marks_where`: each turn marks one state more in the part of the array that is lent to the loop, and the rest stays unmarked. From the laws of such a part.
use Rattle.std.specs.Prelude.{Bool, false, replicate}
use Rattle.std.proofs.Common.{arith, length-take-le}
use Rattle.std.proofs.lemmas.List.{length-replicate}
use Rattle.semantics.proofs.Filling.{none_marked, one_marked, all_marked}
use Rattle.semantics.proofs.tables.marks_where.Goals as goal

pub loop-s-init : goal.loop-s-init
loop-s-init g c = none_marked _ _ _ (length-take-le c.args.states (replicate 128 false) (omega (arith, length-replicate {A = Bool} 128 false, c.requires.few)))

pub loop-s-preserved : goal.loop-s-preserved
loop-s-preserved g c = one_marked _ _ _ _ c.loop-s.invariant _ (omega arith) c.test.ensures

pub returns : goal.returns
returns g c = all_marked _ _ _ _ c.loop-s.invariant (omega arith) c.requires.few
