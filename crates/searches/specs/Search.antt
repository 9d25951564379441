-- The search that collects the reached states, as document 02 tells it ("Stop when everything is reached"): the start states are marked first, by
-- number; then each marked state, in the order of marking, is tried once as the first of a pair with every state by number, marked or not. It ends
-- as soon as every state is marked. Each mark has its run, so the marked states are the last states of the runs. Assumes nothing: these are definitions.
use Rattle.std.specs.Prelude.{ℕ, zero, suc, ◌+◌, Bool, not, cond, ◌&&◌, List, [], ◌∷◌, ◌++◌, eqb, ltb, length, get_or}
use Rattle.systems.specs.System.{System, last}
use Rattle.traces.specs.Marked.{is_marked}

-- What has been collected: the runs, in the order in which their last states were marked, and how many pairs have been tried.
pub record Collection : Type 0 where
  pub runs : List (List ℕ)
  pub pairs : ℕ

-- State t behind the run r: where it passes the test and is not marked yet, it is marked, by the longer run.
unfoldable pub try_state : (ℕ → Bool) → List ℕ → ℕ → List (List ℕ) → List (List ℕ)
unfolding is_marked
try_state next r t q = cond (next t && not (is_marked q t)) (q ++ ((r ++ (t ∷ [])) ∷ [])) q

-- The start states below n are marked, by number, behind no state at all.
unfoldable pub starts_below : (ℕ → Bool) → ℕ → List (List ℕ)
unfolding try_state
starts_below start zero = []
starts_below start (suc s) = try_state start [] s (starts_below start s)

-- The last state of r and the state t are a pair, which counts whether t is marked or not.
unfoldable pub pair_tried : (ℕ → Bool) → List ℕ → ℕ → Collection → Collection
unfolding try_state
pair_tried next r t c = record { runs = try_state next r t c.runs; pairs = c.pairs + 1 }

-- It is tried unless the marked states are as many as there are.
unfoldable pub try_pair : (size : ℕ) → (ℕ → Bool) → List ℕ → ℕ → Collection → Collection
unfolding pair_tried
try_pair size next r t c = cond (eqb (length c.runs) size) c (pair_tried next r t c)

-- The last state of r is tried as the first of a pair with the states below n, by number.
unfoldable pub try_row : (size : ℕ) → (ℕ → Bool) → List ℕ → ℕ → Collection → Collection
unfolding try_pair
try_row size next r zero c = c
try_row size next r (suc t) c = try_pair size next r t (try_row size next r t c)

-- The start states are marked, and the first i runs have been tried with every state.
unfoldable pub explored : System → ℕ → Collection
unfolding starts_below try_row
explored M zero = record { runs = starts_below M.start M.size; pairs = 0 }
explored M (suc i) =
    let c = explored M i in
    let r = get_or c.runs i [] in
    let more = try_row M.size (M.step (last r)) r M.size c in
    cond (ltb i (length c.runs)) more c

-- Each state is marked at most once, so after as many runs as there are states all of them have been tried.
unfoldable pub search : System → Collection
unfolding explored
search M = explored M M.size
