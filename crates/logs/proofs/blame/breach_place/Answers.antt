-- `logs::blame::breach_place`: where no earlier state is bad, the first that is has this place. From `is_breach_place`. Assumes nothing.
use Rattle.std.proofs.Common.{◌≡◌, false, Some, None, rules, arith, get_or}
use borrow.Author.Count.{below_more}
use Rattle.systems.specs.ByTables.{mark_at}
use Rattle.logs.proofs.Laws.Log.{is_breach_place}
use Rattle.logs.proofs.blame.breach_place.Goals as goal

pub returns-then-systems-log : goal.returns-then-systems-log
unfolding mark_at
returns-then-systems-log c =
    is_breach_place (mark_at c.args.systems.tables.now.bad) c.args.log.now _
    record { within = omega (arith, c.loop-place-test.true); breaks = search rules; before = λ k h. c.loop-place.invariant k (omega (arith, h)); none = tt }

pub loop-place-preserved : goal.loop-place-preserved
unfolding mark_at
loop-place-preserved c = below_more (λ k. mark_at c.args.systems.tables.now.bad (get_or c.args.log.now k 0) ≡ false) c.loop-place.place c.loop-place.invariant (search rules)

pub returns : goal.returns
returns c =
    is_breach_place (mark_at c.args.systems.tables.now.bad) c.args.log.now None
    record { within = tt; breaks = tt; before = tt; none = λ k h. c.loop-place.invariant k (omega (arith, h, c.loop-place-test.false)) }
