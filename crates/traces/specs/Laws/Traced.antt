-- The trace as a struct: it has no state exactly if the system holds, its states are the trace, and systems that agree on their states have the same one.
-- From `Judged` and the laws of systems compared. Assumes nothing.
use Rattle.std.specs.Prelude.{ℕ, ◌-◌, ◌≡◌, ◌↔◌, true, List, replicate}
use Rattle.std.proofs.Math.Path.{ap}
use Rattle.std.proofs.Math.Seq.{take-append_seam}
use mathlib.Mathlib.Data.Bool.Basic.{eq-true_of_not-eq-false}
use Rattle.std.proofs.Common.{◌∙◌, arith}
use Rattle.std.proofs.Math.ListN.{length}
use Rattle.systems.specs.System.{System}
use Rattle.systems.specs.Verdict.{holds, trace_of}
use Rattle.systems.specs.Judged.{judged}
use Rattle.traces.specs.Traced.{states_of, trace_with, trace_array}
use Rattle.systems.specs.Laws.Compare.{Same, same_trace_of}

-- A list that is held so has its states back.
pub with_states : (l : List ℕ) → states_of (trace_with l) ≡ l
unfolding trace_with
with_states l = take-append_seam l (replicate (128 - length l) 0)

module _ (M : System) where
  pub trace_states : states_of (trace_array M) ≡ trace_of M
  unfolding trace_array
  trace_states = with_states (trace_of M)

  pub trace_holds : (length (states_of (trace_array M)) ≡ 0) ↔ (holds M ≡ true)
  trace_holds =
      let same = ap length trace_states in
      (λ e. eq-true_of_not-eq-false (λ b. omega (arith, (judged M).at_least_one b, e, same)), λ e. same ∙ ap length ((judged M).held e))

pub same_trace_array : {N M : System} → Same N M → trace_array N ≡ trace_array M
unfolding trace_array
same_trace_array e = ap trace_with (same_trace_of e)
