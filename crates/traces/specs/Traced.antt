-- The trace of a transition system as a struct. Assumes nothing: these are definitions.
use Rattle.std.specs.Prelude.{ℕ, ◌-◌, List, ◌++◌, length, take, replicate}
use Rattle.traces.specs.declared.trace.Trace.{Trace}
use Rattle.systems.specs.System.{System}
use Rattle.systems.specs.Verdict.{trace_of}

-- The states that it has.
abbrev pub states_of : Trace → List ℕ
states_of t = take t.count t.path

-- A list of at most 128 states, and zeros behind it.
unfoldable pub trace_with : List ℕ → Trace
trace_with l = record { count = length l; path = l ++ replicate (128 - length l) 0 }

unfoldable pub trace_array : System → Trace
unfolding trace_with trace_of
trace_array M = trace_with (trace_of M)
