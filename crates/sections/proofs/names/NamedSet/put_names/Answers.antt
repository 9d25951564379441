-- A turn puts a comma and the name of the first rule that is left; behind the last turn no rule is left.
use Rattle.sections.proofs.Naming.{first_rule, started, next_named, all_named, no_rule_put, rules_put}
use Rattle.sections.proofs.names.NamedSet.put_names.Goals as goal

pub returns-in_default : goal.returns-in_default
returns-in_default c = no_rule_put _ _ c.args.self.read.is_read (record { 0 = c.args.self.set }) c.args.self.few c.in_default.ensures.steps.0 _ _ c.put_byte.ensures

pub put_name-requires : goal.put_name-requires
put_name-requires c = first_rule _ _ c.args.self.read.is_read (record { 0 = c.args.self.set }) c.args.self.few _ _ c.in-Some.ensures.steps

pub loop-rule-init : goal.loop-rule-init
loop-rule-init c = rw c.into_iter-rule-iterator.ensures.into_iter_gives (started _ _ c.args.self.read.is_read (record { 0 = c.args.self.set }) c.args.self.few _ _ c.in-Some.ensures.steps _)

pub loop-rule-preserved : goal.loop-rule-preserved
loop-rule-preserved c =
    next_named _ _ _ _ _ _ c.loop-rule.invariant _ _ c.in-Some-rule.ensures.steps _ _ c.put_byte-in-loop-rule.ensures c.put_name-in-loop-rule.ensures

pub returns : goal.returns
returns c =
    let named = all_named _ _ _ _ _ _ c.loop-rule.invariant c.in-None.ensures.steps.0 in
    rules_put _ _ c.args.self.read.is_read (record { 0 = c.args.self.set }) c.args.self.few _ _ c.in-Some.ensures.steps _ _ _ c.put_name.ensures
    (rw c.into_iter-rule-iterator.ensures.into_iter_gives at named)
