-- What is known of the states while a set is judged, as numbers: 1 for a reached state, 2 for one whose row has been walked, 4 for a bad one.
-- What the code that walks the rows ensures of them. Assumes nothing: these are definitions.
use Rattle.std.specs.Prelude.{ℕ, ◌+◌, ◌*◌, ◌≤◌, ◌<◌, ◌≡◌, Bool, true, false, List, eqb, length, get_or, set}
use mir.Val.{bool_byte}
use Rattle.std.specs.Int.Bits.{bit_and, bit_or}
use Rattle.systems.specs.Least.{any}
use Rattle.systems.specs.declared.systems.Systems.{Systems}
use Rattle.systems.specs.ByTables.{mark_at}
use Rattle.systems.specs.BySystems.{step_among, start_among}

-- The mark of a state.
unfoldable pub mark_of : (reached walked bad : Bool) → ℕ
mark_of reached walked bad = bool_byte reached + (2 * bool_byte walked + 4 * bool_byte bad)

-- It has these bits: 4 for a bad state, 5 for a reached one that is bad.
unfoldable pub has_bits : (bits : ℕ) → ℕ → Bool
has_bits bits m = eqb (bit_and m bits) bits

-- Some state has them in its mark.
unfoldable pub any_with : (bits : ℕ) → List ℕ → Bool
unfolding any has_bits
any_with bits marks = any (length marks) (λ t. has_bits bits (get_or marks t 0))

-- It is reached, and its row has not been walked.
unfoldable pub is_open : ℕ → Bool
is_open m = eqb (bit_and m 3) 1

-- State t is such a state.
pub record IsOpen (marks : List ℕ) (t : ℕ) : Type 0 where
  pub within : t < length marks
  pub passes : is_open (get_or marks t 0) ≡ true

-- It is the first such state from s on.
pub record IsNextOpen (marks : List ℕ) (s t : ℕ) : Type 0 where
  pub after : s ≤ t
  pub here : IsOpen marks t
  pub passed : (k : ℕ) → s ≤ k → k < t → is_open (get_or marks k 0) ≡ false

-- No state from s on is.
pub record NoneOpen (marks : List ℕ) (s : ℕ) : Type 0 where
  pub passed : (k : ℕ) → s ≤ k → k < length marks → is_open (get_or marks k 0) ≡ false

-- The start states of the set are reached.
pub record FirstMarks (systems : Systems) (rules : ℕ) (marks : List ℕ) : Type 0 where
  pub size : length marks ≡ systems.tables.now.states
  pub at : (s : ℕ) → s < systems.tables.now.states
      → get_or marks s 0 ≡ mark_of (start_among systems rules s) false (mark_at systems.tables.now.bad s)

-- Marks of states with a step of the set are added, by a row of masks.
pub record RowMarked (row : List ℕ) (rules : ℕ) (before after : List ℕ) : Type 0 where
  pub size : length after ≡ length before
  pub at : (t : ℕ) → t < length row → get_or after t 0 ≡ bit_or (get_or before t 0) (bool_byte (eqb (bit_and (get_or row t 0) rules) rules))

-- The row of state s has been walked.
pub record RowWalked (systems : Systems) (rules s : ℕ) (before after : List ℕ) : Type 0 where
  pub size : length after ≡ length before
  pub at : (t : ℕ) → t < systems.tables.now.states
      → get_or after t 0 ≡ bit_or (get_or (set before s (bit_or (get_or before s 0) 2)) t 0) (bool_byte (step_among systems rules s t))
