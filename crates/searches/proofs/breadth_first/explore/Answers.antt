-- `searches::breadth_first::explore`: a run is tried, or the search has ended. From the laws of what a search holds.
-- Assumes nothing.
use Rattle.std.proofs.Common.{arith}
use Rattle.systems.specs.ByTables.{system_by}
use Rattle.systems.specs.BySystems.{system_among}
use Rattle.searches.specs.Search.{explored}
use Rattle.searches.proofs.Stored.{stores_short, stores_state, stores_tried, stores_next, stores_all, stores_full, sound_few}
use Rattle.searches.proofs.breadth_first.explore.Goals as goal

pub loop-i-init : goal.loop-i-init
unfolding explored system_by
loop-i-init c = c.find_starts.ensures

pub returns-then-x-systems : goal.returns-then-x-systems
unfolding system_by
returns-then-x-systems c =
    let M = system_among c.args.systems c.args.set.0 in
    let i = c.loop-i in
    stores_full M i.i i.invariant c.if-x-systems.true (omega (arith, stores_short M i.i i.invariant))

pub try_row-requires : goal.try_row-requires
unfolding system_by
try_row-requires c =
    let M = system_among c.args.systems c.args.set.0 in
    let i = c.loop-i in
    record {
      sound = i.invariant.sound;
      found = omega arith;
      state = stores_state M i.i i.invariant _ (omega arith);
      tried = stores_tried M i.i i.invariant (omega arith) (omega (arith, sound_few i.invariant.sound));
    }

pub loop-i-preserved : goal.loop-i-preserved
unfolding system_by
loop-i-preserved c = stores_next _ c.loop-i.i c.loop-i.invariant (omega (arith, c.loop-i-test.true)) c.try_row.ensures

pub returns : goal.returns
returns c = stores_all _ c.loop-i.i c.loop-i.invariant (omega (arith, c.loop-i-test.false))
