-- What demand 2 of the mission says of judging a set: a named part for each sentence. The theorem is in `Demands`.
-- Runs, breaches and traces are those of `Rattle.systems.specs.System`; the system of a set is that of the model that the text tells.
-- Assumes nothing: this is a definition.
use Rattle.std.specs.Prelude.{ℕ, ◌<◌, ◌≡◌, ◌↔◌, List, length, take, drop}
use Rattle.systems.specs.System.{Breach, Trace}
use Rattle.calls.specs.declared.verdict.Verdict.TheVariants.{Holds, Broken}
use Rattle.refusals.specs.Answers.{Given, RefusedBy}
use Rattle.calls.specs.Answers.{system_in, judge_answer, judge_bytes}

-- What judging set S answers and writes.
pub record Demand2 (text : List ℕ) (S : ℕ) (lent : List ℕ) : Type 0 where
  -- A set is judged to hold exactly when no run from a start state, each of whose steps meets every rule of the set, comes to a state that
  -- breaks the property; of several, some property.
  pub held : (judge_answer text S lent ≡ Given Holds) ↔ ((run : List ℕ) → Breach (system_in text S) run → ⊥)
  -- If it is judged broken, the run shown is such a run, no such run is shorter, and it comes first among those of its length.
  pub shown : (n : ℕ) → judge_answer text S lent ≡ Given (Broken n) → Trace (system_in text S) (take n (judge_bytes text S lent))
  -- The answer is the length of the run shown, and the bytes past it keep their content.
  pub exact : (n : ℕ) → judge_answer text S lent ≡ Given (Broken n) → length (take n (judge_bytes text S lent)) ≡ n
  pub past : (n : ℕ) → judge_answer text S lent ≡ Given (Broken n) → drop n (judge_bytes text S lent) ≡ drop n lent
  -- It is refused only where the lent bytes are fewer than the states of such a run.
  pub enough : (number line : ℕ) → judge_answer text S lent ≡ RefusedBy number line
      → (run : List ℕ) → Trace (system_in text S) run → length lent < length run
