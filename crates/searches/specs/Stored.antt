-- How a search holds what it has collected, and the reached states as a struct. Assumes nothing: these are definitions.
use Rattle.std.specs.Prelude.{ℕ, ◌+◌, ◌*◌, ◌≤◌, ◌<◌, ◌≡◌, true, false, List, Option, length, get_or, set, take, replicate}
use Rattle.sets.specs.Tabulated.{tabulate}
use Rattle.searches.specs.declared.runs.Reached.{Reached}
use Rattle.searches.specs.declared.runs.Runs.{Runs}
use Rattle.traces.specs.declared.runs.Run.{Run}
use Rattle.systems.specs.Count.{count}
use Rattle.systems.specs.System.{System}
use Rattle.traces.specs.Marked.{is_marked}
use Rattle.traces.specs.Stored.{no_run, runs_in, Chained}
use Rattle.searches.specs.Search.{Collection, search}

-- ---- what has been collected

-- The runs that are found: as many as the count says.
abbrev pub found_in : Runs → List Run
found_in x = take x.count x.runs

-- The state that the run at place i ends in.
abbrev pub last_at : Runs → ℕ → ℕ
last_at x i = (get_or (found_in x) i no_run).last

-- What has been collected.
unfoldable pub collection_in : Runs → Collection
unfolding runs_in
collection_in x = record { runs = runs_in (found_in x); pairs = x.pairs }

-- Before the first run.
unfoldable pub no_runs : Runs
no_runs = record { marks = replicate 128 false; runs = replicate 128 no_run; count = 0; pairs = 0 }

-- One run more, to state t behind the run at place `parent`, or behind none.
unfoldable pub with_run : Runs → Option ℕ → ℕ → Runs
with_run x parent t =
    record {
      marks = set x.marks t true;
      runs = set x.runs x.count (record { last = t; parent = parent });
      count = x.count + 1;
      pairs = x.pairs;
    }

-- The marks are those of the runs that are found, and there are as many of one as of the other. The arrays have their size.
pub record Sound (x : Runs) : Type 0 where
  pub marks : length x.marks ≡ 128
  pub room : length x.runs ≡ 128
  pub chained : Chained (found_in x)
  pub marked : (s : ℕ) → get_or x.marks s false ≡ is_marked (runs_in (found_in x)) s
  pub counted : x.count ≡ count 128 (λ s. get_or x.marks s false)

-- x holds the collection c.
pub record Stores (c : Collection) (x : Runs) : Type 0 where
  pub runs : runs_in (found_in x) ≡ c.runs
  pub pairs : x.pairs ≡ c.pairs
  pub sound : Sound x

-- There is room for a run more, to state t.
pub record Markable (x : Runs) (t : ℕ) : Type 0 where
  pub room : x.count < 128
  pub state : t < 128

-- The run at place i is stored and ends in a state whose row is a part of the masks. No more pairs have been tried than there are.
pub record Triable (states i : ℕ) (x : Runs) : Type 0 where
  pub sound : Sound x
  pub found : i < x.count
  pub state : last_at x i < states
  pub tried : x.pairs ≤ 128 * 128

-- ---- the reached states

-- What the search of a system answers, whose states are below 128: the marks, how many there are, and how many pairs have been tried.
unfoldable pub reached_of : System → Reached
unfolding is_marked search
reached_of M =
    let c = search M in
    record { marks = tabulate 128 (is_marked c.runs); count = length c.runs; pairs = c.pairs }
