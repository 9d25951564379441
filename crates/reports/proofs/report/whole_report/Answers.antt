-- What is put is the report of the text as it was read.
use Rattle.std.proofs.Common.{ℕ, ◌≡◌, sym, ap, List}
use Rattle.refusals.specs.Answers.{Outcome, Accepted, Refused}
use Rattle.models.specs.Written.{model_in}
use Rattle.calls.specs.Answers.{text_outcome}
use Rattle.calls.specs.AsRead.{IsRead, IsModelOf}
use Rattle.semantics.specs.declared.model_text.ModelText.{ModelText}
use Rattle.reports.specs.Report.{model_report, refusal_report, report_on, report_of}
use Rattle.pages.specs.Laws.Putting.{put_as}
use Rattle.reports.proofs.report.whole_report.Goals as goal

-- the report by the outcome of the reading
module _ (text : List ℕ) where
  as_read : (o : Outcome) → text_outcome text ≡ o → report_on o (model_in text) ≡ report_of text
  unfolding report_of
  as_read o e = ap (λ (x : Outcome). report_on x (model_in text)) (sym e)

  refused : (number line : ℕ) → text_outcome text ≡ Refused number line → refusal_report number line ≡ report_of text
  unfolding report_on
  refused number line e = as_read (Refused number line) e

  accepted : text_outcome text ≡ Accepted → model_report (model_in text) ≡ report_of text
  unfolding report_on
  accepted e = as_read Accepted e

-- the text is handed on with its model
module _ {text : List ℕ} {m : ModelText} (r : IsModelOf text m) where
  as_handed : IsRead m.text.now m.model
  as_handed = rw r.same r.read

  put_report : model_report (model_in m.text.now) ≡ report_of text
  put_report = rw r.same (accepted text r.read.outcome)

pub invariant_of-model_report : goal.invariant_of-model_report
invariant_of-model_report c = record { is_read = as_handed c.in-Ok.ensures.read }

pub returns-in-Ok : goal.returns-in-Ok
returns-in-Ok c = put_as _ _ _ _ c.model_report.ensures (put_report c.in-Ok.ensures.read)

pub returns-in-Err : goal.returns-in-Err
returns-in-Err c = put_as _ _ _ _ c.refusal_report.ensures (refused _ _ _ c.in-Err.ensures.refused)
