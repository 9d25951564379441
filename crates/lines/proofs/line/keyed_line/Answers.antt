-- `lines::line::keyed_line` reads the value that a line with the key has, and refuses a text that has none. From the laws of a line's end.
use Rattle.std.proofs.Common.{rules, refl}
use Rattle.lines.proofs.Laws.Ended.{line_missing, value_refused, value_said}
use Rattle.lines.proofs.line.keyed_line.Goals as goal

pub returns-in_err-end : goal.returns-in_err-end
returns-in_err-end g c = line_missing _ _ c.end_of.ensures (search rules) (search rules)

pub returns-in_err-value : goal.returns-in_err-value
returns-in_err-value g c =
    value_refused _ _ c.end_of.ensures (search rules) c.part.ensures.result_value _ (c.part.result, c.in_err-value.ensures, refl) (search rules)

pub returns : goal.returns
returns g c = value_said _ _ c.end_of.ensures (search rules) c.part.ensures.result_value (c.part.result, c.in_ok-value.ensures, refl)
