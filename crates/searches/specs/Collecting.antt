-- What document 02 says of the collecting of the reached states ("Stop when everything is reached"), for any transition system. The theorem is in
-- proofs/Laws/Collecting: the marks and the pairs of the search are such. Assumes nothing: these are definitions.
use Rattle.std.specs.Prelude.{ℕ, ◌+◌, ◌*◌, ◌≤◌, ◌<◌, ◌≡◌, ◌↔◌, Bool, true}
use Rattle.systems.specs.Count.{count}
use Rattle.systems.specs.System.{System, Reached}

-- These states are marked, after so many pairs have been tried.
pub record Collecting (M : System) (marked : ℕ → Bool) (pairs : ℕ) : Type 0 where
  -- The marks are those of the states that end some run.
  pub marks : (s : ℕ) → s < M.size → (marked s ≡ true) ↔ Reached M s
  -- The pairs are as many as there are states for each reached state, if some state is not reached;
  pub some_left : (s : ℕ) → s < M.size → ¬ Reached M s → pairs ≡ M.size * count M.size marked
  -- never fewer than the states added to the start states;
  pub added : count M.size marked ≤ count M.size M.start + pairs
  -- none where every state is a start state;
  pub all_start : ((s : ℕ) → s < M.size → M.start s ≡ true) → pairs ≡ 0
  -- and at most as many as there are states where every pair is a step, as it is for set 0.
  pub all_steps : ((s t : ℕ) → s < M.size → t < M.size → M.step s t ≡ true) → pairs ≤ M.size
