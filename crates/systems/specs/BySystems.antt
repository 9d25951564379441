-- The transition system and the verdict of a rule set as the contracts of code name them: by one value that holds the masks and the tables. Assumes
-- nothing: these are abbreviations of the definitions in `ByTables`.
use Rattle.std.specs.Prelude.{ℕ, Bool, List}
use Rattle.systems.specs.declared.systems.Systems.{Systems}
use Rattle.systems.specs.System.{System}
use Rattle.systems.specs.ByTables.{row_by, step_by, start_by, system_by, judge_by}

-- Row s of the masks.
abbrev pub row_among : Systems → (s : ℕ) → List ℕ
row_among x s = row_by x.masks.now x.tables.now s

-- The steps and the start states of the set.
abbrev pub step_among : Systems → (set : ℕ) → ℕ → ℕ → Bool
step_among x set = step_by x.masks.now set

abbrev pub start_among : Systems → (set : ℕ) → ℕ → Bool
start_among x set = start_by x.masks.now x.tables.now set

-- The system of the set.
abbrev pub system_among : Systems → (set : ℕ) → System
system_among x set = system_by x.masks.now x.tables.now set

-- Whether the set holds.
abbrev pub judge_among : Systems → (set : ℕ) → Bool
judge_among x set = judge_by x.masks.now x.tables.now set
