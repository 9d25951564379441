-- A log whose first state is a start state and whose neighbours are steps is, up to its first bad state, a run that ends there.
-- From the laws of walks. Assumes nothing.
use Rattle.std.specs.Prelude.{ℕ, suc, ◌<◌, ◌≡◌, true, List, length, get_or, take}
use Rattle.std.proofs.Common.{ap, ◌∙◌, arith, length-take-le, get_or-take, take-suc}
use Rattle.systems.specs.System.{System, last, Run, Breach}
use Rattle.systems.specs.Laws.Walks.{last_snoc}
use Rattle.logs.specs.Log.{IsLog}

module _ (M : System) (log : List ℕ) (l : IsLog M.size log) (start : M.start (get_or log 0 0) ≡ true)
    (steps : (k : ℕ) → suc k < length log → M.step (get_or log k 0) (get_or log (suc k) 0) ≡ true) (place : ℕ) (h : place < length log) where
  size : length (take (suc place) log) ≡ suc place
  size = length-take-le (suc place) log (omega arith)

  at : (k : ℕ) → k < suc place → get_or (take (suc place) log) k 0 ≡ get_or log k 0
  at k g = get_or-take (suc place) log k 0 g

  run_to : Run M (take (suc place) log)
  run_to = record {
    nonempty = omega (arith, size);
    states = λ i g. rw (at i (omega (arith, size))) (l.states i (omega (arith, size)));
    first = rw (at 0 (omega arith)) start;
    steps = λ i g. rw (at i (omega (arith, size)), at (suc i) (omega (arith, size))) (steps i (omega (arith, size)));
  }

  pub breach_to : M.bad (get_or log place 0) ≡ true → Breach M (take (suc place) log)
  breach_to b = record { walk = run_to; ends = ap M.bad ends_there ∙ b }
    where
      ends_there : last (take (suc place) log) ≡ get_or log place 0
      ends_there = ap last (take-suc log place 0 h) ∙ last_snoc (take place log) (get_or log place 0)
