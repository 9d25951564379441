-- The loop of `cores::seeds::needed`: of the rules below i those are left without which the full set is broken, and every rule from i on.
-- Assumes nothing: this is a definition.
use Rattle.systems.specs.BySystems.{judge_among}
use Rattle.cores.proofs.Needed.{Left}
use Rattle.cores.proofs.seeds.needed.Given as goal

abbrev pub invariant-loop-i : goal.invariant-loop-i
invariant-loop-i l = Left l.systems.tables.now.rules (judge_among l.systems) l.i l.must.0
