-- The name is found where the model that was read has its parts.
use Rattle.std.proofs.Common.{ap, ◌∙◌, List, get_or}
use Rattle.std.proofs.lemmas.List.{get_or-take}
use Rattle.rule_lines.specs.RuleLines.{no_parts, name_of}
use Rattle.rule_lines.specs.declared.names.RuleParts.{RuleParts}
use Rattle.pages.specs.Laws.Putting.{put_as}
use Rattle.sections.proofs.Naming.{name_is}
use Rattle.sections.proofs.names.put_name.Goals as goal

pub returns : goal.returns
returns c =
    let m = c.args.read.m in
    put_as _ _ _ _ c.put.ensures
    (c.name_of.ensures
    ∙ ap (λ (l : List RuleParts). name_of m.text.now (get_or l c.args.rule no_parts)) c.rules.ensures
    ∙ ap (name_of m.text.now) (get_or-take m.model.rules m.model.parts c.args.rule no_parts c.requires)
    ∙ name_is _ _ c.args.read.is_read _ c.requires)
