-- `searches::breadth_first::try_row`: a pair is counted, and the state is passed over or marked. From the laws of what a search holds.
-- Assumes nothing.
use Rattle.std.proofs.Common.{ℕ, arith, ◌<◌, ◌∙◌, ◌≡◌, ap, ap₂, sym, get_or, get_or-take}
use mathlib.Core.Bool.{and-eq-true_iff}
use borrow.Author.Tests.{not-true}
use Rattle.systems.specs.BySystems.{step_among}
use Rattle.traces.specs.Stored.{no_run}
use Rattle.searches.specs.declared.runs.Runs.{Runs}
use Rattle.searches.specs.Stored.{last_at, with_run}
use Rattle.searches.proofs.Stored.{pairs_none, pairs_ended, pair_passed, pair_taken, counted, sound_room}
use Rattle.searches.proofs.breadth_first.try_row.Goals as goal
use Rattle.searches.proofs.breadth_first.try_row.Goals.{then-is_step-x, else-is_step-x}

pub loop-t-init : goal.loop-t-init
loop-t-init c = record { few = omega arith; stored = pairs_none c.requires.sound c.requires.found }

pub returns-then-x-states : goal.returns-then-x-states
returns-then-x-states c = pairs_ended c.loop-t.invariant.stored c.if-x-states.true (omega arith)

found_last : (x : Runs) (i : ℕ) → i < x.count → (get_or x.runs i no_run).last ≡ last_at x i
found_last x i h = ap (λ r. r.last) (sym (get_or-take x.count x.runs i no_run h))

pub is_step-requires-clause-first : goal.is_step-requires-clause-first
is_step-requires-clause-first c = omega (arith, found_last c.args.x.now c.args.i c.requires.found, c.requires.state)

pub is_step-requires-clause-second : goal.is_step-requires-clause-second
is_step-requires-clause-second c = omega (arith, found_last c.args.x.now c.args.i c.requires.found, c.requires.state)

pub mark-requires : goal.mark-requires
mark-requires c = record {
  room =
      sound_room c.loop-t.invariant.stored.row.stores.sound c.loop-t.t (omega arith) (not-true _ ((and-eq-true_iff _ _).0 c.if-is_step-x.true).1);
  state = omega arith;
}

pub loop-t-preserved : goal.loop-t-preserved
unfolding counted with_run
loop-t-preserved c =
    let steps : c.is_step.result ≡ step_among c.args.systems c.args.set.0 (last_at c.args.x.now c.args.i) c.loop-t.t =
    c.is_step.ensures
    ∙ ap₂ (step_among c.args.systems c.args.set.0) (omega (arith, found_last c.args.x.now c.args.i c.requires.found)) (omega arith) in
    elim c.if-is_step-x.branch [
      | then-is_step-x w ↦ record {
        few = omega (arith, ap (λ y. y.pairs) (w.x-is ∙ w.mark.ensures));
        stored =
            rw (w.x-is ∙ w.mark.ensures)
            (pair_taken c.loop-t.invariant.stored (omega arith) c.if-x-states.false (rw steps at w.if-is_step-x.true));
      }
      | else-is_step-x w ↦ record {
        few = omega (arith, ap (λ y. y.pairs) w.x-is);
        stored =
            rw w.x-is (pair_passed c.loop-t.invariant.stored c.if-x-states.false (rw steps at w.if-is_step-x.false));
      }
    ]
