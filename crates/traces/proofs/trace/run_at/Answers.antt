-- `traces::trace::run_at`: the states of a run are met from its end on, and then turned round. From the laws of `proofs/Traces`. Assumes nothing.
use Rattle.std.proofs.Common.{rules, arith, ap, ◌≡◌, ◌∙◌, ℕ, List, [], length, get_or, reverse}
use Rattle.traces.specs.Stored.{runs_in}
use Rattle.arrayvec.proofs.ArrayVecLemmas.{items-with_items}
use Rattle.traces.specs.Traced.{trace_with}
use Rattle.traces.proofs.Traces.{left_at, left_before, run_short, writes_none, writes_room, writes_more, writes_all}
use Rattle.traces.proofs.trace.run_at.Goals as goal

pub loop-next-init : goal.loop-next-init
loop-next-init c = rw c.new-path.ensures (writes_none (left_at c.requires _ _ c.get-next.ensures.lookup))

pub push-requires : goal.push-requires
push-requires c = (omega arith, writes_room _ (run_short c.requires c.args.place) c.loop-next.path.items c.loop-next.invariant c.in-Some.is)

pub loop-next-smaller : goal.loop-next-smaller
loop-next-smaller c =
    omega (arith, c.push.ensures.len, writes_room c.args.runs.now (run_short c.requires c.args.place) c.loop-next.path.items c.loop-next.invariant c.in-Some.is)

pub loop-next-preserved : goal.loop-next-preserved
loop-next-preserved c =
    rw c.push.ensures.items
    (writes_more _ (run_short c.requires c.args.place) c.loop-next.path.items c.loop-next.invariant c.in-Some.is c.and_then-next.result
    (left_before c.requires c.in-Some.run'.now.parent _ (search rules)))

-- the states that are written, turned round, are the run
written : (c : goal.After-deref) → c.deref.result.now ≡ get_or (runs_in c.args.runs.now) c.args.place []
written c =
    c.deref.ensures.0
    ∙ items-with_items c.loop-next.path c.reverse.new.self (c.reverse.ensures.len ∙ ap (λ l. length l) c.deref_mut.ensures.value)
    ∙ c.reverse.ensures.after
    ∙ ap (λ (l : List ℕ). reverse l) c.deref_mut.ensures.value
    ∙ writes_all _ (run_short c.requires c.args.place) c.loop-next.path.items c.loop-next.invariant (search rules)

pub of-requires : goal.of-requires
of-requires c = rw (written c) (run_short c.requires c.args.place)

pub returns : goal.returns
returns c = c.of.ensures ∙ ap trace_with (written c.before)
