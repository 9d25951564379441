-- The loop of `cores::seeds::settle_all`: what was found is right, and no set below `from` is unknown. The measure is how many sets are ahead.
-- Assumes nothing: these are definitions.
use Rattle.std.proofs.Common.{◌-◌}
use Rattle.systems.specs.BySystems.{judge_among}
use Rattle.cores.proofs.Finding.{Finding}
use Rattle.cores.proofs.seeds.settle_all.Given as goal

abbrev pub invariant-loop-s : goal.invariant-loop-s
invariant-loop-s l =
    Finding l.systems.tables.now.rules (judge_among l.systems) l.end l.unknown l.cores l.cuts l.from

abbrev pub decreases-loop-s : goal.decreases-loop-s
decreases-loop-s l = l.end - l.from
