-- The verdict and the trace of a transition system as functions that compute. `Judged` proves that they are the meanings of `System`.
-- Assumes nothing.
use Rattle.std.specs.Prelude.{ℕ, zero, suc, Bool, cond, ◌&&◌, List, [], ◌∷◌, leb}
use Rattle.systems.specs.Least.{least, any}
use Rattle.systems.specs.System.{System}

-- From state s, k steps can lead to a bad state.
unfoldable pub breaks_in : System → ℕ → ℕ → Bool
unfolding any
breaks_in M zero s = M.bad s
breaks_in M (suc k) s = any M.size (λ t. M.step s t && breaks_in M k t)

-- From one of the states `from`, k steps can lead to a bad state.
unfoldable pub breaks_from : System → (ℕ → Bool) → ℕ → Bool
unfolding any breaks_in
breaks_from M from k = any M.size (λ t. from t && breaks_in M k t)

-- The least of the states `from` from which k steps can lead to a bad state; `size` if there is none.
unfoldable pub pick : System → (ℕ → Bool) → ℕ → ℕ
unfolding least breaks_in
pick M from k = least M.size (λ t. from t && breaks_in M k t)

-- The least number of steps, below n, that can lead from a start state to a bad one; n if there is none.
unfoldable pub depth_below : System → ℕ → ℕ
unfolding least breaks_from
depth_below M n = least n (breaks_from M M.start)

-- No run of fewer than n steps ends in a bad state.
unfoldable pub holds_below : System → ℕ → Bool
unfolding depth_below
holds_below M n = leb n (depth_below M n)

-- No run of at most k steps ends in a bad state. No code uses it yet; it waits for the request of a depth.
unfoldable pub holds_to : System → ℕ → Bool
unfolding holds_below
holds_to M k = holds_below M (suc k)

-- The number of steps of a shortest run to a bad state; `size` if there is none.
unfoldable pub depth : System → ℕ
unfolding depth_below
depth M = depth_below M M.size

-- No run ends in a bad state: a shortest one would have fewer steps than there are states.
unfoldable pub holds : System → Bool
unfolding holds_below
holds M = holds_below M M.size

-- The greedy walk: the least of the states `from` that breaks in k steps, then the least next one that breaks in one step fewer, and so on.
unfoldable pub greedy : System → (ℕ → Bool) → ℕ → List ℕ
unfolding pick
greedy M from zero = pick M from zero ∷ []
greedy M from (suc k) = let s = pick M from (suc k) in s ∷ greedy M (M.step s) k

-- The trace; empty if the system holds.
unfoldable pub trace_of : System → List ℕ
unfolding holds greedy depth
trace_of M = let l = greedy M M.start (depth M) in cond (holds M) [] l
