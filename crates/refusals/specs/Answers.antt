-- How an answer reads: refused by a number with its line, or accepted; and of an accepted one, what it gives.
-- A refusal that concerns no line of the text has line 0. Assumes nothing: these are definitions.
use Rattle.std.specs.Prelude.{ℕ, Result, Ok, Err}
use Rattle.refusals.specs.declared.refusal.Refusal.{Refusal}
use Rattle.refusals.specs.Numbers.{number_of}

-- Whether something is refused, and then by which number and with which line.
pub data Outcome : Type 0 where
  Accepted : Outcome
  Refused : (number line : ℕ) → Outcome

-- The same, and of an accepted one what it gives.
pub data Answer (A : Type 0) : Type 0 where
  RefusedBy : (number line : ℕ) → Answer A
  Given : A → Answer A

-- How a result reads.
abbrev pub answer_of : {A : Type 0} → Result A Refusal → Answer A
answer_of (Ok a) = Given a
answer_of (Err r) = RefusedBy (number_of r.reason) r.line

-- Of an answer, whether it is refused alone.
abbrev pub outcome_of : {A : Type 0} → Answer A → Outcome
outcome_of (RefusedBy number line) = Refused number line
outcome_of (Given a) = Accepted
