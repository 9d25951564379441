-- The pages that are written are the report's first bytes; what is left of the report gets less with every page.
use Rattle.std.proofs.Common.{◌≡◌, length}
use Rattle.std.specs.Io.KnownBytes.{Appends}
use Rattle.reports.specs.Report.{report_of, judged_part}
use Rattle.report.proofs.Paged.{written, left}
use Rattle.report.proofs.write_report.Given as goal

abbrev pub invariant-loop-next : goal.invariant-loop-next
invariant-loop-next g l =
    (length l.page ≡ 65536)
    × Appends (g.W.Write.contents l.initial.out) (g.W.Write.contents l.out) (written l.next (report_of (judged_part l.input)))

abbrev pub decreases-loop-next : goal.decreases-loop-next
decreases-loop-next g l = left l.next (report_of (judged_part l.input))
