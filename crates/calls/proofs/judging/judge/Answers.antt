-- `calls::judging::judge` meets its contract: each way out is a case of `JudgeFacts`. Assumes nothing.
use Rattle.std.proofs.Common.{sym, ◌∙◌}
use Rattle.std.proofs.lemmas.Result.{err_from_is_err_and}
use Rattle.calls.proofs.JudgeFacts.{trace_told, by_reading, by_length, by_none, by_trace, front_written}
use Rattle.calls.proofs.judging.judge.Goals as goal

pub returns-in_err-m-clause-value : goal.returns-in_err-m-clause-value
returns-in_err-m-clause-value c =
    let p = err_from_is_err_and c.from_residual.result c.from_residual.ensures.1 in
    rw (p.1, p.2) (by_reading c.args.text.now c.args.set c.args.lent.now c.in_err-m.ensures.refused).0

pub returns-in_err-m-clause-lent_after : goal.returns-in_err-m-clause-lent_after
returns-in_err-m-clause-lent_after c = (by_reading _ _ _ c.in_err-m.ensures.refused).1

pub returns-then-lent-states-clause-value : goal.returns-then-lent-states-clause-value
returns-then-lent-states-clause-value c =
    let r = c.in_ok-m.ensures.read in
    rw c.into.ensures (by_length r c.args.lent.now (c.states-states.ensures ∙ trace_told r c.trace-trace.ensures) c.if-lent-states.true).0

pub returns-then-lent-states-clause-lent_after : goal.returns-then-lent-states-clause-lent_after
returns-then-lent-states-clause-lent_after c =
    let r = c.in_ok-m.ensures.read in (by_length r _ (c.states-states.ensures ∙ trace_told r c.trace-trace.ensures) c.if-lent-states.true).1

pub returns-then-is_empty-clause-value : goal.returns-then-is_empty-clause-value
returns-then-is_empty-clause-value c =
    let r = c.in_ok-m.ensures.read in
    (by_none r _ (c.states-states.ensures ∙ trace_told r c.trace-trace.ensures) c.if-lent-states.false (sym c.is_empty.ensures ∙ c.if-is_empty.true)).0

pub returns-then-is_empty-clause-lent_after : goal.returns-then-is_empty-clause-lent_after
returns-then-is_empty-clause-lent_after c =
    let r = c.in_ok-m.ensures.read in
    (by_none r _ (c.states-states.ensures ∙ trace_told r c.trace-trace.ensures) c.if-lent-states.false (sym c.is_empty.ensures ∙ c.if-is_empty.true)).1

pub returns-clause-value : goal.returns-clause-value
returns-clause-value c =
    let r = c.in_ok-m.ensures.read in
    (by_trace r _ (c.states-states.ensures ∙ trace_told r c.trace-trace.ensures) c.if-lent-states.false (sym c.is_empty.ensures ∙ c.if-is_empty.false)).0

pub returns-clause-lent_after : goal.returns-clause-lent_after
returns-clause-lent_after c =
    let r = c.in_ok-m.ensures.read in
    front_written c.args.lent.now _ c.copy_from_slice.ensures.after
    ∙ (by_trace r c.args.lent.now (c.states-states.ensures ∙ trace_told r c.trace-trace.ensures) c.if-lent-states.false (sym c.is_empty.ensures ∙ c.if-is_empty.false)).1
