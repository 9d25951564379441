-- Each page holds the report's next bytes, and the last one its end.
use Rattle.std.proofs.Common.{sym, arith, subst, ◌∙◌}
use Rattle.std.proofs.Math.Seq.{length-take-le}
use Rattle.std.specs.Io.KnownBytes.{Appends}
use Rattle.std.proofs.KnownBytes.{Appends-trans}
use Rattle.report.proofs.Paged.{same_page, within, page_written, less_left}
use Rattle.report.proofs.write_report.Goals as goal

pub slice_bounds-page-end : goal.slice_bounds-page-end
slice_bounds-page-end g c = within _ _ _ _ _ c.report-printed.ensures.value c.report-printed.ensures.page_after

pub slice_bounds-write_all-end : goal.slice_bounds-write_all-end
slice_bounds-write_all-end g c = sym (length-take-le _ _ (within _ _ _ _ _ c.report-printed.ensures.value c.report-printed.ensures.page_after))

pub loop-next-preserved : goal.loop-next-preserved
loop-next-preserved g c = (
  same_page _ _ _ _ _ c.report-printed.ensures.value c.report-printed.ensures.page_after ∙ c.loop-next.invariant.0,
  subst (Appends _ _) (page_written _ _ _ _ _ c.report-printed.ensures.value c.report-printed.ensures.page_after)
      (Appends-trans _ _ _ _ _ (rw c.in-Some.is at c.loop-next.invariant.1) c.in_ok-write_all.ensures.bytes),
)

pub loop-next-smaller : goal.loop-next-smaller
loop-next-smaller g c = rw c.in-Some.is (less_left _ _ _ _ _ c.report-printed.ensures.value c.report-printed.ensures.page_after (omega (arith, c.loop-next.invariant.0)))
