-- The report of model Tremor as document 01 prints it, and three more, computed from their texts. Assumes nothing.
use Rattle.std.specs.Prelude.{◌≡◌, refl, [], ◌∷◌}
use Rattle.std.specs.Int.Count.{ones}
use Rattle.exprs.specs.Token.{token_of}
use Rattle.exprs.specs.Expr.{size}
use Rattle.lines.specs.Bytes.{belongs, ended_lines}
use Rattle.models.specs.Changed.{by_property}
use Rattle.semantics.specs.Meaning.{system_of, judge}
use Rattle.sorting.specs.Which.{listed, of_kind}
use Rattle.sections.specs.Sections.{verdict_lines, verdict_by, verdicts_of, set_line, kind_lines, list_lines}
use Rattle.reports.specs.Report.{model_report, report_of}

pub tremor_report : report_of (ended_lines ("vars=3" ∷ "rules=3" ∷ "init=!c" ∷ "prop=>c&ab" ∷ "rule=ra:>CA" ∷ "rule=rb:>CB" ∷ "rule=vote:>C&AB" ∷ []))
    ≡ ended_lines ("verdict=holds" ∷ "must=-" ∷ "may=ra,rb,vote" ∷ "irr=-" ∷ "cores=2" ∷ "core=vote" ∷ "core=ra,rb" ∷ "cuts=2" ∷ "cut=ra,vote" ∷ "cut=rb,vote" ∷ [])
unfolding report_of model_report verdicts_of verdict_by verdict_lines by_property system_of judge set_line kind_lines of_kind list_lines listed ended_lines size belongs token_of ones
tremor_report = refl

-- Tremor with `ra` as its only rule, which is broken
pub broken_report : report_of (ended_lines ("vars=3" ∷ "rules=1" ∷ "init=!c" ∷ "prop=>c&ab" ∷ "rule=ra:>CA" ∷ []))
    ≡ ended_lines ("verdict=broken" ∷ "state=0" ∷ "state=5" ∷ "must=-" ∷ "may=-" ∷ "irr=ra" ∷ "cores=0" ∷ "cuts=1" ∷ "cut=-" ∷ [])
unfolding report_of model_report verdicts_of verdict_by verdict_lines by_property system_of judge set_line kind_lines of_kind list_lines listed ended_lines size belongs token_of ones
broken_report = refl

-- two properties, of which the second is broken
pub two_verdicts_report : report_of (ended_lines ("vars=2" ∷ "rules=1" ∷ "init=&!a!b" ∷ "prop=!b" ∷ "prop=!a" ∷ "rule=quiet:!B" ∷ []))
    ≡ ended_lines ("verdict=holds" ∷ "verdict=broken" ∷ "state=0" ∷ "state=1" ∷ "must=-" ∷ "may=-" ∷ "irr=quiet" ∷ "cores=0" ∷ "cuts=1" ∷ "cut=-" ∷ [])
unfolding report_of model_report verdicts_of verdict_by verdict_lines by_property system_of judge set_line kind_lines of_kind list_lines listed ended_lines size belongs token_of ones
two_verdicts_report = refl

-- a text that is refused
pub refused_report : report_of (ended_lines ("vars=3" ∷ "rules=17" ∷ [])) ≡ ended_lines ("refused=2" ∷ "line=2" ∷ [])
unfolding report_of model_report verdicts_of verdict_by verdict_lines by_property system_of judge set_line kind_lines of_kind list_lines listed ended_lines size belongs token_of ones
refused_report = refl
