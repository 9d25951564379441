-- `traces::trace::Trace::of`: the array begins with the states, and holds zeros behind them. From the laws of lists. Assumes nothing.
use Rattle.std.proofs.Common.{ℕ, ◌≡◌, ◌++◌, arith, List, length, drop, replicate}
use Rattle.std.proofs.lemmas.List.{drop-replicate}
use Rattle.traces.specs.declared.trace.Trace.{Trace}
use Rattle.traces.specs.Traced.{trace_with}
use Rattle.traces.proofs.trace.Trace.of.Goals as goal

-- so many states, and zeros of which the first are the states
held : (count : ℕ) (states front : List ℕ) → count ≡ length states → front ≡ states
    → record { count = count; path = front ++ drop (length states) (replicate 128 0) } ≡ trace_with states
unfolding trace_with
held count states front n e = rw (n, e, drop-replicate {X = ℕ} (length states) 128 0)

pub returns : goal.returns
returns c = held _ c.args.states.now c.copy_from_slice.new.self (omega arith) c.copy_from_slice.ensures.after
