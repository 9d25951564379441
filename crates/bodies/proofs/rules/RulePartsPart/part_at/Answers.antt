-- A rule's line meets what `on_line` asks: one that is read ends within the text. Assumes nothing.
use Rattle.bodies.specs.Laws.Ranges.{rule_ends}
use Rattle.bodies.proofs.rules.RulePartsPart.part_at.Goals as goal

pub on_line-requires-clause-ends_within : goal.on_line-requires-clause-ends_within
on_line-requires-clause-ends_within c = rule_ends _ _ _ _ _ c.requires c.rule_line-said.ensures
