-- `calls::reaching::reach` meets its contract: each way out is a case of `ReachedFacts`. Assumes nothing.
use Rattle.std.proofs.Common.{◌∙◌, arith}
use Rattle.std.proofs.lemmas.Result.{err_from_is_err_and}
use Rattle.calls.proofs.ReachedFacts.{reached_by_reading, reached_by_length, reached_by_none, front_put}
use Rattle.calls.proofs.reaching.reach.Goals as goal

pub returns-in_err-m-clause-value : goal.returns-in_err-m-clause-value
returns-in_err-m-clause-value c =
    let p = err_from_is_err_and c.from_residual.result c.from_residual.ensures.1 in
    rw (p.1, p.2) (reached_by_reading c.args.text.now c.args.set c.args.lent.now c.in_err-m.ensures.refused).0

pub returns-in_err-m-clause-lent_after : goal.returns-in_err-m-clause-lent_after
returns-in_err-m-clause-lent_after c = (reached_by_reading _ _ _ c.in_err-m.ensures.refused).1

pub returns-then-lent-states-clause-value : goal.returns-then-lent-states-clause-value
returns-then-lent-states-clause-value c =
    rw c.into.ensures
    (reached_by_length c.in_ok-m.ensures.read c.args.lent.now (omega (arith, c.state_count-states.ensures, c.if-lent-states.true))).0

pub returns-then-lent-states-clause-lent_after : goal.returns-then-lent-states-clause-lent_after
returns-then-lent-states-clause-lent_after c =
    (reached_by_length c.in_ok-m.ensures.read _ (omega (arith, c.state_count-states.ensures, c.if-lent-states.true))).1

pub returns-clause-value : goal.returns-clause-value
returns-clause-value c =
    (reached_by_none c.in_ok-m.ensures.read _ c.reached-reached.ensures (omega (arith, c.state_count-states.ensures, c.if-lent-states.false))).0

pub returns-clause-lent_after : goal.returns-clause-lent_after
returns-clause-lent_after c =
    front_put _ _ _ c.if-lent-states.false c.put_marks.ensures c.state_count-states.ensures
    ∙ (reached_by_none c.in_ok-m.ensures.read _ c.reached-reached.ensures (omega (arith, c.state_count-states.ensures, c.if-lent-states.false))).1
