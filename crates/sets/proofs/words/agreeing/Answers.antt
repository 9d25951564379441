-- `sets::words::agreeing`: each rule of the set keeps the numbers that fit there, and those that fit at each of six are the ones meant.
use Rattle.std.proofs.Common.{◌≡◌, eq-eqb, ne_eqb, arith}
use Rattle.sets.specs.Bit.{has}
use Rattle.sets.specs.Cores.{none_below}
use Rattle.sets.specs.Gathered.{fits_at}
use Rattle.sets.specs.Laws.Gathered.{set_of_all}
use Rattle.sets.proofs.Passing.{kept, passed}
use Rattle.sets.proofs.words.agreeing.Goals as goal
use Rattle.sets.proofs.words.agreeing.Goals.{then-set-rule-eq1, else-set-rule-eq1}

pub loop-rule-init : goal.loop-rule-init
unfolding none_below
loop-rule-init g c = λ fits by_rule. set_of_all 64

pub loop-rule-preserved : goal.loop-rule-preserved
unfolding has
loop-rule-preserved g c = λ fits by_rule.
    elim c.if-set-rule-eq1.branch [
      | then-set-rule-eq1 w ↦
          rw w.word-is
          (kept fits _ _ (c.loop-rule.invariant fits by_rule) (eq-eqb _ _ w.if-set-rule-eq1.true) (by_rule _ _ w.fitting-word.ensures))
      | else-set-rule-eq1 w ↦ rw w.word-is (passed fits _ _ (c.loop-rule.invariant fits by_rule) (ne_eqb _ _ w.if-set-rule-eq1.false))
    ]

pub returns : goal.returns
unfolding fits_at
returns g c = λ fits by_rule. let end : c.loop-rule.rule ≡ 6 = omega arith in rw end at c.loop-rule.invariant fits by_rule
