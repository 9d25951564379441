-- One mark more. Assumes nothing.
use Rattle.std.proofs.Common.{ap, arith, ◌∙◌, false, ◌&&◌}
use Rattle.systems.specs.ByTables.{mark_at, start_by}
use Rattle.systems.specs.Laws.Rows.{row_meets}
use Rattle.verdicts.specs.Marks.{mark_of}
use Rattle.verdicts.proofs.Reaching.{passed_next, mark_first}
use Rattle.verdicts.proofs.verdict.first_marks.Goals as goal

pub loop-s-preserved : goal.loop-s-preserved
unfolding mark_at start_by
loop-s-preserved c =
    let t = c.args.systems.tables.now in
    passed_next c.loop-s.invariant _ (omega arith)
    (mark_first _ _ ∙ ap (λ m. mark_of (mark_at t.init c.loop-s.s && m) false (mark_at t.bad c.loop-s.s))
    (row_meets _ _ _ c.start_row-mask-items.ensures.row _ _ (omega arith) c.meets.ensures))
