-- The report of a text, as bytes. From document 01, "The report", and document 02, "Several properties together": its lines in order, section by
-- section. Assumes nothing: these are definitions.
use Rattle.std.specs.Prelude.{ℕ, List, ◌++◌, length, take}
use Rattle.lines.specs.Bytes.{bytes}
use Rattle.models.specs.Written.{Described, model_in}
use Rattle.refusals.specs.Answers.{Outcome, Accepted, Refused}
use Rattle.semantics.specs.Meaning.{judge}
use Rattle.sorting.specs.declared.which.WhichList.TheVariants.{Cores, Cuts}
use Rattle.sorting.specs.Which.{listed}
use Rattle.calls.specs.Answers.{text_outcome}
use Rattle.pages.specs.Numbers.{number_line}
use Rattle.sections.specs.Sections.{verdicts_of, kind_lines, list_lines}

-- of an accepted text's model: the verdict on the full set by each property; then, for the properties jointly, MUST, MAY and the irrelevant rules,
-- the cores, the cuts
unfoldable pub model_report : Described → List ℕ
model_report M =
    let R = length M.rules in
    verdicts_of M
    ++ (kind_lines M (judge M)
    ++ (list_lines M Cores (listed Cores R (judge M))
    ++ list_lines M Cuts (listed Cuts R (judge M))))

-- of a refused text: the number, the line's number, and nothing else
unfoldable pub refusal_report : ℕ → ℕ → List ℕ
unfolding number_line
refusal_report number at = number_line (bytes "refused=") number ++ number_line (bytes "line=") at

unfoldable pub report_on : Outcome → Described → List ℕ
unfolding model_report refusal_report
report_on Accepted M = model_report M
report_on (Refused number at) M = refusal_report number at

unfoldable pub report_of : List ℕ → List ℕ
unfolding report_on text_outcome model_in
report_of text = report_on (text_outcome text) (model_in text)

-- ---- the input

-- the part of an input that is judged
unfoldable pub judged_part : List ℕ → List ℕ
judged_part input = take 4096 input
