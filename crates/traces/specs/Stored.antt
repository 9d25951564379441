-- How a list holds the runs that a search has found. Assumes nothing: these are definitions.
use Rattle.std.specs.Prelude.{ℕ, zero, suc, ◌≤◌, ◌<◌, ◌≡◌, List, [], ◌∷◌, ◌++◌, Option, None, Some, length, get_or}
use Rattle.std.specs.List.{All}
use Rattle.traces.specs.declared.runs.Run.{Run}

-- What stands where no run is.
abbrev pub no_run : Run
no_run = record { last = 0; parent = None }

-- The run at the parent's place, or none.
unfoldable pub before : List (List ℕ) → Option ℕ → List ℕ
before q None = []
before q (Some p) = get_or q p []

-- The first n runs: each is the one at its parent's place, or none, and one state more.
unfoldable pub runs_to : List Run → ℕ → List (List ℕ)
unfolding before
runs_to runs zero = []
runs_to runs (suc n) =
    let q = runs_to runs n in
    let r = get_or runs n no_run in
    q ++ ((before q r.parent ++ (r.last ∷ [])) ∷ [])

-- All of them.
unfoldable pub runs_in : List Run → List (List ℕ)
unfolding runs_to
runs_in runs = runs_to runs (length runs)

-- There are at most 128, each ends in a state below 128, and each extends one that was found earlier, or none.
pub record Chained (runs : List Run) : Type 0 where
  pub few : length runs ≤ 128
  pub states : All (λ run. run.last < 128) runs
  pub earlier : (k p : ℕ) → k < length runs → (get_or runs k no_run).parent ≡ Some p → p < k
