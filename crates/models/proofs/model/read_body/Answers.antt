-- `models::model::read_body` meets what the reading of the rule lines asks: they begin within the text. Assumes nothing.
use Rattle.std.proofs.Common.{sym}
use Rattle.models.proofs.Laws.Steps.{rules_due}
use Rattle.models.proofs.model.read_body.Goals as goal

pub rule_lines-requires : goal.rule_lines-requires
rule_lines-requires c = rules_due _ _ _ _ _ _ _ c.requires c.none_read-r.ensures (sym c.in_ok-property_lines.ensures.reads)
