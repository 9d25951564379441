-- `cores::seeds::needed`: a rule is dropped where the full set holds without it, and those that are left are MUST. From the laws of `proofs/Needed`.
-- Assumes nothing.
use Rattle.cores.specs.Laws.Judged.{tables_monotone}
use Rattle.cores.proofs.Needed.{all_left, spared, kept, is_must}
use Rattle.cores.proofs.seeds.needed.Goals as goal
use Rattle.cores.proofs.seeds.needed.Goals.{then-is_held, else-is_held}

pub loop-i-init : goal.loop-i-init
loop-i-init c = all_left _ _ c.requires.itself

pub loop-i-preserved : goal.loop-i-preserved
loop-i-preserved c =
    elim c.if-is_held.branch [
      | then-is_held w ↦ rw w.must-is (spared _ _ c.loop-i.i c.loop-i.invariant c.without-fewer.ensures (cc))
      | else-is_held w ↦ rw w.must-is (kept _ _ c.loop-i.i c.loop-i.invariant (cc))
    ]

pub returns : goal.returns
returns c = is_must _ _ c.loop-i.i c.loop-i.invariant (tables_monotone _ _) c.requires.holds c.loop-i-test.false
