-- `bodies::rules::rule_lines` keeps what was read of the rule lines. Assumes nothing.
use Rattle.bodies.proofs.PartLines.{rules_kept}
use Rattle.bodies.proofs.rules.rule_lines.Goals as goal

pub returns-clause-kept : goal.returns-clause-kept
returns-clause-kept c = rules_kept c.args.text.now c.args.vars c.args.r.now c.args.rules _ _ c.part_lines.ensures.kept
