-- What document 01 says of states, runs and traces, for any transition system. These are the meanings; no search is in them.
-- Assumes nothing.
use Rattle.std.specs.Prelude.{ℕ, suc, ◌≤◌, ◌<◌, ◌≡◌, ◌⊎◌, Bool, true, false, List, [], ◌∷◌, length, get_or}

-- A transition system. Its states are the numbers below `size`; which of them are start states, which pairs are steps, which states are bad.
pub record System : Type 0 where
  pub size : ℕ
  pub start : ℕ → Bool
  pub step : ℕ → ℕ → Bool
  pub bad : ℕ → Bool

-- The state that a list of states ends in.
unfoldable pub last : List ℕ → ℕ
last [] = 0
last (s ∷ []) = s
last (s ∷ t ∷ l) = last (t ∷ l)

-- A walk: a list of one or more states, the first one of the states `from`, each next one a step away.
pub record Walk (M : System) (from : ℕ → Bool) (l : List ℕ) : Type 0 where
  pub nonempty : 0 < length l
  pub states : (i : ℕ) → i < length l → get_or l i 0 < M.size
  pub first : from (get_or l 0 0) ≡ true
  pub steps : (i : ℕ) → suc i < length l → M.step (get_or l i 0) (get_or l (suc i) 0) ≡ true

-- A walk that ends in a bad state.
pub record BadWalk (M : System) (from : ℕ → Bool) (l : List ℕ) : Type 0 where
  pub walk : Walk M from l
  pub ends : M.bad (last l) ≡ true

-- A run: a list of one or more states, the first a start state, each next one a step away.
abbrev pub Run : System → List ℕ → Type 0
Run M l = Walk M M.start l

-- A run that ends in a bad state.
abbrev pub Breach : System → List ℕ → Type 0
Breach M l = BadWalk M M.start l

-- Reached: the state ends some run.
pub record Reached (M : System) (s : ℕ) : Type 0 where
  pub path : List ℕ
  pub run : Run M path
  pub ends : last path ≡ s

-- The system holds: no reached state is bad, start states included.
pub record Holds (M : System) : Type 0 where
  pub good : (s : ℕ) → Reached M s → M.bad s ≡ false

-- It holds to depth k: no run of at most k steps ends in a bad state. No code uses it yet; it waits for the request of a depth.
pub record HoldsTo (M : System) (k : ℕ) : Type 0 where
  pub good : (l : List ℕ) → Run M l → length l ≤ suc k → M.bad (last l) ≡ false

-- Of two lists of one length, l has the smaller state number at the first place where they differ.
pub record Earlier (l m : List ℕ) : Type 0 where
  pub place : ℕ
  pub within : place < length l
  pub before : (i : ℕ) → i < place → get_or l i 0 ≡ get_or m i 0
  pub smaller : get_or l place 0 < get_or m place 0

-- The trace: the shortest run that ends in a bad state; of several, the earliest.
pub record Trace (M : System) (l : List ℕ) : Type 0 where
  pub breach : Breach M l
  pub shortest : (m : List ℕ) → Breach M m → length l ≤ length m
  pub first : (m : List ℕ) → Breach M m → length m ≡ length l → (l ≡ m) ⊎ Earlier l m
