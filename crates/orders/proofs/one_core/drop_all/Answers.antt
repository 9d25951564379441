-- The next rule is dropped or stays, and in the end all were tried. Assumes nothing.
use Rattle.std.proofs.Common.{sym, ap, ◌∙◌, arith}
use Rattle.sets.specs.OneCore.{after_set}
use Rattle.orders.proofs.Trying.{tried_some, tried_none, one_tried, all_tried}
use Rattle.orders.proofs.one_core.drop_all.Goals as goal
use Rattle.orders.proofs.one_core.drop_all.Goals.{in-Some, in_default}

pub loop-rule-preserved : goal.loop-rule-preserved
loop-rule-preserved c =
    one_tried _ _ _ _ c.loop-rule.invariant c.loop-rule-test.true
    (elim c.match-found.branch [
      | in-Some w ↦ w.found-is ∙ w.judged-found.ensures ∙ ap (after_set _ _) w.without.ensures ∙ sym (tried_some _ _ _ w.in-Some.is)
      | in_default w ↦ w.found-is ∙ sym (tried_none _ _ _ w.in_default.is)
    ])

pub returns : goal.returns
returns c = all_tried _ _ _ _ c.loop-rule.invariant (omega arith)
