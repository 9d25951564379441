-- `RuleSet::first`: the empty set has no rule, and of any other the zeros are counted with which its number ends.
use Rattle.std.proofs.Common.{◌≡◌, sym, ◌∙◌, arith}
use Rattle.std.proofs.lemmas.Bool.{eqb-true, eqb-false}
use Rattle.sets.specs.Laws.First.{first_next, none_next}
use Rattle.sets.proofs.ruleset.RuleSet.first.Goals as goal

pub returns-then-eq : goal.returns-then-eq
returns-then-eq c = let empty : c.args.self.0 ≡ 0 = eqb-true _ _ (sym c.eq.ensures ∙ c.if-eq.true) in rw empty none_next

pub returns : goal.returns
returns c = first_next c.args.self.0 (eqb-false _ _ (sym c.eq.ensures ∙ c.if-eq.false)) (omega arith)
