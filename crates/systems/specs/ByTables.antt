-- The transition system that tables give a rule set, and its verdict: the marks of the states that meet `init` and of the bad ones stand in `Tables`,
-- entry 128 * s + t of the masks is the set of the rules whose step part the pair (s, t) meets, and the row behind those of the states has at t the set
-- of the rules whose start part the state t meets. Assumes nothing: these are definitions.
use Rattle.std.specs.Prelude.{ℕ, ◌+◌, ◌*◌, ◌≤◌, Bool, false, ◌&&◌, List, eqb, length, get_or, take, drop}
use Rattle.std.specs.Int.Bits.{bit_and}
use Rattle.systems.specs.declared.tables.Tables.{Tables}
use Rattle.systems.specs.System.{System}
use Rattle.systems.specs.Verdict.{holds}

-- The mark of state s; what is past the marks has none.
unfoldable pub mark_at : List Bool → ℕ → Bool
mark_at marks s = get_or marks s false

-- The pair (s, t) is a step of the set: it meets the step part of every rule of the set.
unfoldable pub step_by : (masks : List ℕ) (set : ℕ) → ℕ → ℕ → Bool
step_by masks set s t = eqb (bit_and (get_or masks (128 * s + t) 0) set) set

-- The state s is a start state of the set: it meets `init` and the start part of every rule of the set, by the row behind those of the states.
unfoldable pub start_by : (masks : List ℕ) → Tables → (set : ℕ) → ℕ → Bool
unfolding mark_at step_by
start_by masks t set s = mark_at t.init s && step_by masks set t.states s

-- The masks have a row for each state, and one more.
pub record HasRoom (masks : List ℕ) (t : Tables) : Type 0 where
  pub few : t.states ≤ 128
  pub room : 128 * (t.states + 1) ≤ length masks

-- Row s of the masks: that of a state, or the one behind those of the states.
unfoldable pub row_by : (masks : List ℕ) → Tables → (s : ℕ) → List ℕ
row_by masks t s = take t.states (drop (128 * s) masks)

-- The system of the set.
unfoldable pub system_by : (masks : List ℕ) → Tables → (set : ℕ) → System
unfolding mark_at start_by step_by
system_by masks t set = record { size = t.states; start = start_by masks t set; step = step_by masks set; bad = mark_at t.bad }

-- Whether the set holds.
unfoldable pub judge_by : (masks : List ℕ) → Tables → (set : ℕ) → Bool
unfolding holds system_by
judge_by masks t set = holds (system_by masks t set)
