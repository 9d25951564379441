-- The set holds where no state is bad or no row is left, and does not where a reached state is bad. Assumes nothing.
use Rattle.std.proofs.Common.{sym, ◌∙◌}
use Rattle.verdicts.proofs.Reaching.{none_bad, spread_first, judging_next, judging_hit, judging_less, judging_ends}
use Rattle.verdicts.proofs.verdict.is_held.Goals as goal

pub returns-then-not-any_with : goal.returns-then-not-any_with
returns-then-not-any_with c = sym (none_bad _ _ c.first_marks.ensures (sym c.any_with.ensures ∙ c.if-not-any_with.true))

pub loop-next-init : goal.loop-next-init
loop-next-init c = record { spread = spread_first _ _ c.first_marks.ensures; next = c.next_round-next.ensures }

pub returns-then-any_with : goal.returns-then-any_with
returns-then-any_with c = sym (judging_hit c.loop-next.invariant (sym c.any_with-in-Some.ensures ∙ c.if-any_with.true))

pub loop-next-smaller : goal.loop-next-smaller
loop-next-smaller c =
    judging_less (rw c.in-Some.is at c.loop-next.invariant) (sym c.any_with-in-Some.ensures ∙ c.if-any_with.false) c.walk_row.ensures

pub loop-next-preserved : goal.loop-next-preserved
loop-next-preserved c =
    judging_next (rw c.in-Some.is at c.loop-next.invariant) (sym c.any_with-in-Some.ensures ∙ c.if-any_with.false) c.walk_row.ensures
    c.next_round-next-in-Some.ensures

pub returns : goal.returns
returns c = sym (judging_ends (rw c.in_default.is at c.loop-next.invariant))
