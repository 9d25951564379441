-- `lookup::suffices::suffices`: each test of a count is that of the definition.
use Rattle.std.proofs.Common.{ap, eq-eqb, ne_eqb}
use Rattle.refusals.specs.Answers.{Given}
use Rattle.lookup.specs.Suffices.{odd_count, suffices_answer}
use Rattle.lookup.proofs.suffices.suffices.Goals as goal
use Rattle.lookup.proofs.suffices.suffices.Goals.{then-cores-eq1-via-then-cores-eq1, then-cores-eq1-via-else-cores-eq1+then-cuts-eq1}

pub returns-then-cores-eq1 : goal.returns-then-cores-eq1
unfolding suffices_answer odd_count
returns-then-cores-eq1 c =
    rw c.into.ensures
    (elim c.then-cores-eq1.branch [
      | then-cores-eq1-via-then-cores-eq1 w ↦ rw (eq-eqb _ _ w.if-cores-eq1.true)
      | then-cores-eq1-via-else-cores-eq1+then-cuts-eq1 w ↦ rw (ne_eqb _ _ w.if-cores-eq1.false, eq-eqb _ _ w.if-cuts-eq1.true)
    ])

pub returns : goal.returns
unfolding suffices_answer odd_count
returns c = rw (ne_eqb _ _ c.if-cores-eq1.false, ne_eqb _ _ c.if-cuts-eq1.false) (ap Given c.look_up.ensures)
