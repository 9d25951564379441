-- The verdict on the full set is the first judgement, and the rules of the order are few. Assumes nothing.
use Rattle.std.proofs.Common.{ℕ, Bool, None, ◌≡◌, arith, ap, sym, ◌∙◌}
use Rattle.sets.specs.declared.one_core.OneCore.{OneCore}
use Rattle.sets.specs.Bit.{full}
use Rattle.sets.specs.OneCore.{unjudged, after_verdict, after_set, after_order, one_core_of}
use Rattle.sets.specs.Laws.Orders.{order_below}
use Rattle.systems.specs.BySystems.{judge_among}
use Rattle.orders.proofs.Trying.{none_dropped}
use Rattle.orders.proofs.one_core.one_core.Goals as goal

pub drop_all-requires-clause-below : goal.drop_all-requires-clause-below
drop_all-requires-clause-below c k l = omega (arith, order_below c.requires.ordered k (omega (arith, c.requires.ordered.size)), c.requires.few)

pub drop_all-requires-clause-few : goal.drop_all-requires-clause-few
unfolding after_set after_verdict
drop_all-requires-clause-few c = omega (arith, ap (λ d. d.judgements) c.judged-first.ensures, c.requires.ordered.size, c.requires.few)

-- the first verdict by the places of the code
first_is : (h : ℕ → Bool) (R : ℕ) {all : ℕ} {first : OneCore} → all ≡ full R → first ≡ after_set h (record { core = None; judgements = 0 }) all → first ≡ after_set h unjudged (full R)
unfolding unjudged
first_is h R e f = f ∙ ap (after_set h unjudged) e

pub returns-in-Some : goal.returns-in-Some
unfolding one_core_of
returns-in-Some c =
    let h = judge_among c.args.systems in
    c.drop_all.ensures ∙ ap (λ d. after_order h d c.args.order.now) (first_is h _ c.full-all.ensures c.judged-first.ensures)

-- where nothing was found, nothing is dropped
pub returns-in-None : goal.returns-in-None
unfolding one_core_of
returns-in-None c =
    let h = judge_among c.args.systems in
    sym (none_dropped h c.args.order.now c.judged-first.result c.in-None.is) ∙ ap (λ d. after_order h d c.args.order.now) (first_is h _ c.full-all.ensures c.judged-first.ensures)
