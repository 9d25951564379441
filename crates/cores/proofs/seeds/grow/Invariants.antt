-- The loop of `cores::seeds::grow`: what the seed has grown to is broken, and holds with any one of the first i rules that it lacks.
-- Assumes nothing: this is a definition.
use Rattle.systems.specs.BySystems.{judge_among}
use Rattle.cores.specs.Seeds.{Grown}
use Rattle.cores.proofs.seeds.grow.Given as goal

abbrev pub invariant-loop-i : goal.invariant-loop-i
invariant-loop-i l = Grown l.systems.tables.now.rules (judge_among l.systems) l.fn.seed.0 l.i l.most.0
