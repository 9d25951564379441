-- Whether the trace has a state picks the case of `verdict_lines`.
use Rattle.std.proofs.Common.{sym, ◌∙◌}
use Rattle.lines.specs.Written.{line}
use Rattle.pages.specs.Laws.Putting.{put_as, both_put}
use Rattle.sections.proofs.Verdicts.{verdict_held, verdict_broken}
use Rattle.sections.proofs.verdict.verdict_of.Goals as goal

pub returns-then-is_empty : goal.returns-then-is_empty
unfolding line
returns-then-is_empty c =
    put_as _ _ _ _ c.put.ensures (verdict_held _ _ _ c.full-all.ensures c.trace-trace.ensures c.states-states.ensures (sym c.is_empty.ensures ∙ c.if-is_empty.true))

pub returns-else-is_empty : goal.returns-else-is_empty
unfolding line
returns-else-is_empty c =
    put_as _ _ _ _ (both_put _ _ _ _ _ c.put-else-is_empty.ensures c.state_lines.ensures)
    (verdict_broken _ _ _ c.full-all.ensures c.trace-trace.ensures c.states-states.ensures (sym c.is_empty.ensures ∙ c.if-is_empty.false))
