-- `searches::breadth_first::find_starts`: a start state has no mark yet, so it is marked without a test. From the laws of what a search holds.
-- Assumes nothing.
use Rattle.std.proofs.Common.{ap, arith, ◌∙◌, ◌≡◌, sym}
use Rattle.searches.proofs.Stored.{starts_none, starts_unmarked, starts_passed, starts_taken, sound_room}
use Rattle.systems.specs.BySystems.{start_among}
use Rattle.searches.specs.Stored.{no_runs}
use Rattle.searches.proofs.breadth_first.find_starts.Goals as goal
use Rattle.searches.proofs.breadth_first.find_starts.Goals.{then-is_start, else-is_start}

pub loop-t-init : goal.loop-t-init
unfolding no_runs
loop-t-init c = rw c.requires starts_none

pub mark-requires : goal.mark-requires
mark-requires c =
    let i = c.loop-t.invariant in
    record { room = sound_room i.row.stores.sound c.loop-t.t (omega arith) (starts_unmarked i); state = omega arith }

pub loop-t-preserved : goal.loop-t-preserved
loop-t-preserved c =
    let starts : c.is_start.result ≡ start_among c.args.systems c.args.set.0 c.loop-t.t =
    c.is_start.ensures ∙ ap (start_among c.args.systems c.args.set.0) (omega arith) in
    elim c.if-is_start.branch [
      | then-is_start w ↦ rw (w.x-is ∙ w.mark.ensures) (starts_taken c.loop-t.invariant (omega arith) (omega arith) (sym starts ∙ w.if-is_start.true))
      | else-is_start w ↦ rw w.x-is (starts_passed c.loop-t.invariant (sym starts ∙ w.if-is_start.false))
    ]
