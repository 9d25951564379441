-- The four parts are put one after the other.
use Rattle.std.proofs.Common.{ℕ, ◌≡◌, refl, ap, ap₂, ◌∙◌, Bool, List, ◌++◌, length}
use Rattle.models.specs.Written.{Described, model_in}
use Rattle.semantics.specs.Meaning.{judge}
use Rattle.sorting.specs.declared.which.WhichList.{WhichList}
use Rattle.sorting.specs.declared.which.WhichList.TheVariants.{Cores, Cuts}
use Rattle.sorting.specs.Which.{listed}
use Rattle.calls.specs.Answers.{rules_in, judge_in, list_in}
use Rattle.sections.specs.Sections.{verdicts_of, kind_lines, list_lines}
use Rattle.reports.specs.Report.{model_report}
use Rattle.pages.specs.Laws.Putting.{put_as, both_put}
use Rattle.reports.proofs.report.model_report.Goals as goal

-- the four parts
abbrev parts : Described → (ℕ → Bool) → List ℕ → List ℕ → List ℕ
parts M h cores cuts = verdicts_of M ++ (kind_lines M h ++ (list_lines M Cores cores ++ list_lines M Cuts cuts))

module _ (text : List ℕ) where
  R : ℕ
  R = length (model_in text).rules

  judge_is : judge_in text ≡ judge (model_in text)
  unfolding judge_in
  judge_is = refl

  list_is : (which : WhichList) → list_in which text ≡ listed which R (judge (model_in text))
  unfolding list_in rules_in judge_in R
  list_is which = refl

  parts_are : parts (model_in text) (judge_in text) (list_in Cores text) (list_in Cuts text) ≡ model_report (model_in text)
  unfolding model_report R
  parts_are =
      ap (λ h. parts (model_in text) h (list_in Cores text) (list_in Cuts text)) judge_is
      ∙ ap₂ (parts (model_in text) (judge (model_in text))) (list_is Cores) (list_is Cuts)

pub returns : goal.returns
returns c =
    put_as _ _ _ _
    (both_put _ _ _ _ _ c.verdict_lines.ensures
    (both_put _ _ _ _ _ c.kind_lines.ensures (both_put _ _ _ _ _ c.list_lines.ensures c.list_lines-2.ensures)))
    (parts_are _)
