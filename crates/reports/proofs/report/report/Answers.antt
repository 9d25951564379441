-- The report of a page: it takes its window of the report on the part of the input that is judged, and no report is so long that the next page's place would
-- not fit.
use Rattle.std.specs.Bool.{then_some}
use Rattle.std.specs.Borrow.{GName}
use Rattle.std.proofs.Common.{ℕ, ◌+◌, ◌≤◌, ◌≡◌, sym, List, ◌∙◌, arith, rules, length}
use Rattle.sets.specs.Lists.{overwritten}
use Rattle.pages.specs.Page.{Page, empty_page, put, window, printed_of}
use Rattle.pages.specs.Laws.Page.{Taken, page_taken, printed_is, next_within}
use Rattle.reports.specs.Laws.Length.{report_length}
use Rattle.reports.specs.Report.{report_of, judged_part}
use Rattle.reports.proofs.report.report.Goals as goal

-- the report of the text is put on an empty page; the text is the judged part of the input
module _ (input text lent : List ℕ) (from : ℕ) (loan : GName) (p q : Page) (part : text ≡ judged_part input) (begun : p ≡ empty_page from lent loan) (made : q ≡ put (report_of text) p) where
  whole : List ℕ
  whole = report_of (judged_part input)

  takes : Taken whole lent from loan q
  unfolding whole
  takes = rw (made, begun, part) (page_taken (report_of (judged_part input)) lent from loan)

  next_fits : (bound : ℕ) → from ≤ bound → 33554432 ≤ bound → from + q.at ≤ bound
  unfolding whole
  next_fits bound h k =
      omega (arith, takes.place, next_within whole from (length lent) bound h (omega (arith, report_length (judged_part input))))

  says : record { bytes = q.at; next = then_some q.more (from + q.at) } ≡ printed_of from (length lent) (report_of (judged_part input))
  unfolding whole
  says = printed_is whole lent from loan q takes

  -- the lender has what the page holds, where the page keeps to its loan
  holds : (after : List ℕ) → (loan ≡ q.loan → after ≡ q.bytes) → after ≡ overwritten (window from (length lent) (report_of (judged_part input))) lent
  unfolding whole
  holds after back = back (sym takes.same_loan) ∙ takes.bytes

pub overflow_add-from : goal.overflow_add-from
overflow_add-from c =
    let n = next_fits _ _ _ c.args.from _ _ _ c.judged.ensures c.new-lent.ensures c.whole_report.ensures 18446744073709551615 (omega arith) (omega arith) in
    omega (arith, c.stored-bytes.ensures)

pub returns-clause-value : goal.returns-clause-value
returns-clause-value c =
    rw (c.then_some-next.ensures, c.goes_on.ensures, c.stored-bytes.ensures) (says _ _ _ _ _ _ _ c.judged.ensures c.new-lent.ensures c.whole_report.ensures)

pub returns-clause-page_after : goal.returns-clause-page_after
returns-clause-page_after c = holds _ _ _ _ _ _ _ c.judged.ensures c.new-lent.ensures c.whole_report.ensures _ (λ e. search rules)
