-- `sets::words::having`: the pattern of each of the first six rules computes, and no number below 64 has another rule.
use Rattle.std.proofs.Common.{sym, ◌∙◌, arith}
use Rattle.sets.specs.Bit.{has}
use Rattle.sets.specs.Laws.Bit.{has_below}
use Rattle.sets.specs.Laws.Cores.{false_if}
use Rattle.sets.specs.Gathered.{one, set_of}
use Rattle.sets.specs.Laws.Gathered.{set_of_same, set_of_none}
use Rattle.sets.proofs.words.having.Goals as goal

pub returns-in-0 : goal.returns-in-0
unfolding set_of one has
returns-in-0 c = rw c.in-0.is

pub returns-in-1 : goal.returns-in-1
unfolding set_of one has
returns-in-1 c = rw c.in-1.is

pub returns-in-2 : goal.returns-in-2
unfolding set_of one has
returns-in-2 c = rw c.in-2.is

pub returns-in-3 : goal.returns-in-3
unfolding set_of one has
returns-in-3 c = rw c.in-3.is

pub returns-in-4 : goal.returns-in-4
unfolding set_of one has
returns-in-4 c = rw c.in-4.is

pub returns-in-5 : goal.returns-in-5
unfolding set_of one has
returns-in-5 c = rw c.in-5.is

pub returns-in_default : goal.returns-in_default
returns-in_default c =
    set_of_none 64 ∙ set_of_same 64 _ _ (λ t l. sym (false_if (has t c.args.rule) (λ e. omega (arith, has_below 6 t c.args.rule l e))))
