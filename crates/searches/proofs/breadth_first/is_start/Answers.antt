-- `searches::breadth_first::is_start`: the mark of the state, and its entry in the row of the start parts. From the laws of rows. Assumes nothing.
use Rattle.std.proofs.Common.{ap, arith, ◌&&◌}
use Rattle.systems.specs.ByTables.{mark_at, start_by}
use Rattle.systems.specs.Laws.Rows.{row_meets}
use Rattle.searches.proofs.breadth_first.is_start.Goals as goal

pub returns : goal.returns
unfolding mark_at start_by
returns c =
    ap (λ m. mark_at c.args.systems.tables.now.init c.args.t && m) (row_meets _ _ _ c.start_row.ensures.row _ _ (omega arith) c.meets.ensures)
