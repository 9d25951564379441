-- The two lines are put one after the other.
use Rattle.reports.specs.Report.{refusal_report}
use Rattle.pages.specs.Laws.Putting.{both_put}
use Rattle.reports.proofs.report.refusal_report.Goals as goal

pub returns : goal.returns
unfolding refusal_report
returns c = both_put _ _ _ _ _ (rw c.number.ensures at c.number_line.ensures) c.number_line-2.ensures
