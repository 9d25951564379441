-- The rules as masks and tables tell them: a pair of states meets the step part of the rules in its mask, and a state the start part of those in its
-- entry of the row behind those of the states. Assumes nothing: these are definitions.
use Rattle.std.specs.Prelude.{ℕ, ◌+◌, ◌*◌, Bool, List, get_or}
use Rattle.sets.specs.Bit.{has}
use Rattle.systems.specs.declared.systems.Systems.{Systems}
use Rattle.systems.specs.declared.tables.Tables.{Tables}

unfoldable pub start_met_by : (masks : List ℕ) → Tables → ℕ → ℕ → Bool
unfolding has
start_met_by masks t i s = has (get_or masks (128 * t.states + s) 0) i

unfoldable pub step_met_by : (masks : List ℕ) → ℕ → ℕ → ℕ → Bool
unfolding has
step_met_by masks i s u = has (get_or masks (128 * s + u) 0) i

-- The same by the one value that holds the masks and the tables.
abbrev pub start_met_among : Systems → ℕ → ℕ → Bool
start_met_among x = start_met_by x.masks.now x.tables.now

abbrev pub step_met_among : Systems → ℕ → ℕ → ℕ → Bool
step_met_among x = step_met_by x.masks.now
