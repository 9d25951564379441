-- Demand 2 for any transition system: the verdict holds exactly if no run ends in a bad state, and the trace is the shortest such run and
-- the earliest of its length. From the laws of verdict and trace (`Laws.Holds`). Assumes nothing.
use Rattle.std.specs.Prelude.{ℕ, ◌≤◌, ◌≡◌, ◌↔◌, true, false, List, [], length}
use Rattle.std.proofs.Common.{ap, ⊎_elim, arith}
use mathlib.Mathlib.Data.Bool.Basic.{dichotomy}
use Rattle.systems.specs.System.{System, Holds, Trace}
use Rattle.systems.specs.Verdict.{holds, trace_of}
use Rattle.systems.specs.Laws.Holds.{holds_iff, breach_broken, trace_of_held, trace_of_broken, depth_broken, length_trace, greedy_trace, trace_only}

-- What the verdict and the trace of a system are.
pub record Judged (M : System) : Type 0 where
  pub verdict : (holds M ≡ true) ↔ Holds M
  pub held : holds M ≡ true → trace_of M ≡ []
  pub broken : holds M ≡ false → Trace M (trace_of M)
  pub only : (l : List ℕ) → Trace M l → l ≡ trace_of M
  pub at_least_one : holds M ≡ false → 1 ≤ length (trace_of M)
  pub at_most_size : length (trace_of M) ≤ M.size

pub judged : (M : System) → Judged M
judged M = record {
  verdict = holds_iff M;
  held = trace_of_held M;
  broken = trace;
  only = λ l t. trace_only l (trace_of M) t (trace (breach_broken t.breach));
  at_least_one = λ e. (trace e).breach.walk.nonempty;
  at_most_size = ⊎_elim short (λ e. omega (arith, ap length (trace_of_held M e))) (dichotomy (holds M));
}
  where
    trace : holds M ≡ false → Trace M (trace_of M)
    trace e = rw (trace_of_broken M) (greedy_trace M (depth_broken M e))

    short : holds M ≡ false → length (trace_of M) ≤ M.size
    short e = omega (arith, length_trace M e, depth_broken M e)
