-- The iterator's `next`: the first of the marked sets that are left, and those behind it. From the laws of the next number that passes.
use Rattle.std.proofs.Common.{sym, arith}
use Rattle.std.proofs.lemmas.Grind.{common_steps}
use Rattle.sets.specs.Laws.Next.{next_is_some, next_is_none, none_passing, first_passing}
use Rattle.marks.proofs.table.ByNumberIterator.next.Goals as goal

pub returns-in_err-set-clause-steps : goal.returns-in_err-set-clause-steps
returns-in_err-set-clause-steps c =
    let e = none_passing _ (next_is_none _ (sym c.in_err-set.ensures)) in rw c.from_residual.ensures (e, e)

pub overflow_add-self : goal.overflow_add-self
overflow_add-self c = let e = next_is_some _ (sym c.in_ok-set.ensures) in omega (arith, e.1, c.args.self.now.ending.few)

pub overflow_cast-result : goal.overflow_cast-result
overflow_cast-result c = let e = next_is_some _ (sym c.in_ok-set.ensures) in omega (arith, e.1, c.args.self.now.ending.few)

pub returns-clause-steps : goal.returns-clause-steps
returns-clause-steps c = let e = next_is_some _ (sym c.in_ok-set.ensures) in first_passing _ e.0 e.1 e.2

pub returns-clause-goes : goal.returns-clause-goes
returns-clause-goes c =
    let e = next_is_some _ (sym c.in_ok-set.ensures) in
    let all = first_passing _ e.0 e.1 e.2 in
    grind (arith, common_steps)
