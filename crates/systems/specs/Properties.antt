-- Several properties of one transition system, any number of them: what they say together and what each says alone. From document 02, "Several
-- properties together". The theorem is in proofs/Properties: where `Jointly` is true, all of `JointlyJudged` is. Assumes nothing: these are definitions.
use Rattle.std.specs.Prelude.{ℕ, ◌≤◌, ◌<◌, ◌≡◌, ◌↔◌, ◌⊎◌, true, false, List, length}
use Rattle.systems.specs.System.{System, Earlier}
use Rattle.systems.specs.Verdict.{holds, trace_of}

-- J is the system with n properties together, and M j the one with property j alone: they have the same states, start states and steps, and a
-- state is bad in J exactly when it is bad by some property.
pub record Jointly (J : System) (n : ℕ) (M : ℕ → System) : Type 0 where
  pub size : (j : ℕ) → j < n → (M j).size ≡ J.size
  pub start : (j : ℕ) → j < n → (s : ℕ) → (M j).start s ≡ J.start s
  pub step : (j : ℕ) → j < n → (s t : ℕ) → (M j).step s t ≡ J.step s t
  pub bad : (s : ℕ) → (J.bad s ≡ true) ↔ ((j : ℕ) × (j < n) × ((M j).bad s ≡ true))

-- l is the trace by a property that is broken, and of the traces by such properties it is the shortest; of several, the earliest.
pub record FirstOfTraces (n : ℕ) (M : ℕ → System) (l : List ℕ) : Type 0 where
  pub property : ℕ
  pub within : property < n
  pub broken : holds (M property) ≡ false
  pub its_trace : l ≡ trace_of (M property)
  pub shortest : (j : ℕ) → j < n → holds (M j) ≡ false → length l ≤ length (trace_of (M j))
  pub first : (j : ℕ) → j < n → holds (M j) ≡ false → length (trace_of (M j)) ≡ length l → (l ≡ trace_of (M j)) ⊎ Earlier l (trace_of (M j))

pub record JointlyJudged (J : System) (n : ℕ) (M : ℕ → System) : Type 0 where
  -- The joint verdict is the conjunction of the verdicts by property.
  pub verdict : (holds J ≡ true) ↔ ((j : ℕ) → j < n → holds (M j) ≡ true)
  -- The joint trace is the first in order of the shortest of the traces by property.
  pub trace : holds J ≡ false → FirstOfTraces n M (trace_of J)
