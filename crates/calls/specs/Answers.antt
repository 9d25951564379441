-- What each call answers to a text, a set and the lent bytes, and what the lent bytes hold afterwards.
-- From document 01, "Calls" and "When a call is turned away": the first number that fits refuses the call, and then no lent byte changes.
-- Assumes nothing: these are definitions.
use Rattle.std.specs.Prelude.{ℕ, ◌^◌, ◌≡◌, Bool, true, false, cond, List, leb, ltb, length}
use mir.Val.{bool_byte}
use Rattle.sets.specs.Lists.{bytes_of, overwritten}
use Rattle.sets.specs.Tabulated.{tabulate}
use Rattle.refusals.specs.Answers.{Accepted, Answer, Given, Outcome, Refused, RefusedBy, outcome_of}
use Rattle.models.specs.Reading.{read_model}
use Rattle.models.specs.Written.{model_in}
use Rattle.systems.specs.System.{System}
use Rattle.systems.specs.Verdict.{holds, trace_of}
use Rattle.traces.specs.Marked.{is_marked}
use Rattle.searches.specs.Search.{search}
use Rattle.semantics.specs.Meaning.{system_of, judge}
use Rattle.sorting.specs.declared.which.WhichList.{WhichList}
use Rattle.sorting.specs.Which.{listed, of_kind}
use Rattle.sorting.specs.declared.kinds.Kind.{Kind}
use Rattle.calls.specs.declared.verdict.Verdict.{Verdict}
use Rattle.calls.specs.declared.verdict.Verdict.TheVariants.{Holds, Broken}

-- ---- what a text means

-- How many rules its model has.
unfoldable pub rules_in : List ℕ → ℕ
unfolding model_in
rules_in text = length (model_in text).rules

-- The system of a set of its rules, and whether the set holds.
unfoldable pub system_in : List ℕ → ℕ → System
unfolding model_in system_of
system_in text S = system_of (model_in text) S

unfoldable pub judge_in : List ℕ → ℕ → Bool
unfolding model_in judge
judge_in text S = judge (model_in text) S

-- The trace of a set; without a state if the set holds.
unfoldable pub trace_in : List ℕ → ℕ → List ℕ
unfolding system_in trace_of
trace_in text S = trace_of (system_in text S)

-- How many states its model has.
unfoldable pub states_in : List ℕ → ℕ
unfolding model_in
states_in text = 2 ^ (model_in text).vars

-- What the search of a set marks, a byte for each state by number, 1 for a reached one and 0 for one that is not; and how many pairs it tries.
unfoldable pub marks_in : List ℕ → ℕ → List ℕ
unfolding states_in system_in search is_marked
marks_in text S = tabulate (states_in text) (λ s. bool_byte (is_marked (search (system_in text S)).runs s))

unfoldable pub pairs_in : List ℕ → ℕ → ℕ
unfolding system_in search
pairs_in text S = (search (system_in text S)).pairs

-- The core list or the cut list; and MUST, MAY or the irrelevant rules.
unfoldable pub list_in : WhichList → List ℕ → List ℕ
unfolding listed rules_in judge_in
list_in which text = listed which (rules_in text) (judge_in text)

unfoldable pub kind_in : Kind → List ℕ → ℕ
unfolding of_kind rules_in judge_in
kind_in kind text = of_kind kind (rules_in text) (judge_in text)

-- ---- the first number that fits

-- The first of two refusals; where it is none, the second.
infixr 40 ◌or_else◌
unfoldable pub ◌or_else◌ : Outcome → Outcome → Outcome
Accepted or_else next = next
Refused number line or_else next = Refused number line

-- A number that concerns no line of the text, where it fits.
unfoldable pub refused_if : Bool → ℕ → Outcome
refused_if true number = Refused number 0
refused_if false number = Accepted

-- 1 to 9: as the text is read.
unfoldable pub text_outcome : List ℕ → Outcome
unfolding read_model
text_outcome text = outcome_of (read_model text)

-- 10: the judged set is 2^R or more.
unfoldable pub set_outcome : List ℕ → ℕ → Outcome
unfolding refused_if rules_in
set_outcome text S = refused_if (leb (2 ^ rules_in text) S) 10

-- Reading a text and a set of its rules.
unfoldable pub read_outcome : List ℕ → ℕ → Outcome
unfolding ◌or_else◌ text_outcome set_outcome
read_outcome text S = text_outcome text or_else set_outcome text S

-- 11: the lent bytes are fewer than what is to be written.
unfoldable pub length_outcome : List ℕ → List ℕ → Outcome
unfolding refused_if
length_outcome new lent = refused_if (ltb (length lent) (length new)) 11

-- A call that is handed a set, and writes these new bytes.
unfoldable pub asked_outcome : (text : List ℕ) (S : ℕ) (new lent : List ℕ) → Outcome
unfolding ◌or_else◌ read_outcome length_outcome
asked_outcome text S new lent = read_outcome text S or_else length_outcome new lent

-- Judging a set needs one byte for each state of the trace; a set that holds needs none.
unfoldable pub judge_outcome : List ℕ → ℕ → List ℕ → Outcome
unfolding asked_outcome trace_in
judge_outcome text S lent = asked_outcome text S (trace_in text S) lent

-- Its reached states need one byte for each state of the model.
unfoldable pub reached_outcome : List ℕ → ℕ → List ℕ → Outcome
unfolding asked_outcome marks_in
reached_outcome text S lent = asked_outcome text S (marks_in text S) lent

-- Listing sets needs two bytes for each. (The rules of a kind need none: that call's outcome is the text's.)
unfoldable pub list_outcome : WhichList → List ℕ → List ℕ → Outcome
unfolding ◌or_else◌ text_outcome length_outcome bytes_of list_in
list_outcome which text lent = text_outcome text or_else length_outcome (bytes_of (list_in which text)) lent

-- ---- the answers

-- What a call gives: refused by the number and the line, or the answer.
unfoldable pub given : {A : Type 0} → Outcome → A → Answer A
given Accepted answer = Given answer
given (Refused number line) answer = RefusedBy number line

-- The lent bytes after a call that writes new ones: bytes past the new ones keep their content, and a refused call changes none.
unfoldable pub after : Outcome → List ℕ → List ℕ → List ℕ
unfolding overwritten
after Accepted new lent = overwritten new lent
after (Refused number line) new lent = lent

-- The verdict on a system, with its trace's length.
unfoldable pub verdict_of : System → Verdict
unfolding holds trace_of
verdict_of M = cond (holds M) Holds (Broken (length (trace_of M)))

-- Judge a set, with lent bytes for the trace, one per state.
unfoldable pub judge_answer : List ℕ → ℕ → List ℕ → Answer Verdict
unfolding given judge_outcome verdict_of system_in
judge_answer text S lent = given (judge_outcome text S lent) (verdict_of (system_in text S))

unfoldable pub judge_bytes : List ℕ → ℕ → List ℕ → List ℕ
unfolding after judge_outcome trace_in
judge_bytes text S lent = after (judge_outcome text S lent) (trace_in text S) lent

-- Give the reached states of a set, with lent bytes for the marks, one per state.
unfoldable pub reached_answer : List ℕ → ℕ → List ℕ → Answer ℕ
unfolding given reached_outcome pairs_in
reached_answer text S lent = given (reached_outcome text S lent) (pairs_in text S)

unfoldable pub reached_bytes : List ℕ → ℕ → List ℕ → List ℕ
unfolding after reached_outcome marks_in
reached_bytes text S lent = after (reached_outcome text S lent) (marks_in text S) lent

-- List the cores, or the cuts.
unfoldable pub list_answer : WhichList → List ℕ → List ℕ → Answer ℕ
unfolding given list_outcome list_in
list_answer which text lent = given (list_outcome which text lent) (length (list_in which text))

unfoldable pub list_bytes : WhichList → List ℕ → List ℕ → List ℕ
unfolding after list_outcome list_in bytes_of
list_bytes which text lent = after (list_outcome which text lent) (bytes_of (list_in which text)) lent

-- Give MUST, MAY or the irrelevant rules.
unfoldable pub kind_answer : Kind → List ℕ → Answer ℕ
unfolding given text_outcome kind_in
kind_answer kind text = given (text_outcome text) (kind_in kind text)

-- A call gave the answer, and wrote the new bytes over the lent ones and nothing else.
pub record Gives {A : Type 0} (answer : A) (new lent : List ℕ) (answered : Answer A) (bytes : List ℕ) : Type 0 where
  pub says : answered ≡ Given answer
  pub writes : bytes ≡ overwritten new lent
