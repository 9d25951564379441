-- `searches::breadth_first::is_step`: the entry of the second state in the row of the first. From the laws of rows. Assumes nothing.
use Rattle.std.proofs.Common.{arith, ◌≡◌}
use Rattle.systems.specs.BySystems.{step_among}
use Rattle.systems.specs.Laws.Rows.{row_meets}
use Rattle.searches.proofs.breadth_first.is_step.Goals as goal

pub returns : goal.returns
returns c =
    let step : c.meets.result ≡ step_among c.args.systems c.args.set.0 c.args.s c.args.t =
    row_meets _ _ _ c.row.ensures.row _ _ (omega arith) c.meets.ensures in
    grind arith
