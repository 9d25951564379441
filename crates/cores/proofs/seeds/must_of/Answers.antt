-- `cores::seeds::must_of`: where the full set is broken there is no core, since a set holds if a part of it does. From the laws of MUST.
-- Assumes nothing.
use Rattle.std.proofs.Common.{sym}
use Rattle.sets.specs.Laws.Edges.{full_broken}
use Rattle.systems.specs.BySystems.{judge_among}
use Rattle.cores.specs.Laws.Judged.{tables_monotone}
use Rattle.cores.proofs.seeds.must_of.Goals as goal

pub returns-else-is_held : goal.returns-else-is_held
returns-else-is_held c =
    let h = judge_among c.args.systems in
    sym (full_broken c.args.systems.tables.now.rules h (tables_monotone _ _) (cc)).no_must
