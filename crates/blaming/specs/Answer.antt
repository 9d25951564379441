-- What blame from a log answers to a text and a log of its states.
-- From document 02, "Blame from a station's log". Assumes nothing: these are definitions.
use Rattle.std.specs.Prelude.{ℕ, not, List, get_or}
use Rattle.refusals.specs.Answers.{Answer, Outcome}
use Rattle.models.specs.Written.{model_in}
use Rattle.logs.specs.declared.blame.Blamed.{Blamed}
use Rattle.logs.specs.Log.{is_log, blame_of}
use Rattle.semantics.specs.Meaning.{init_met, start_met, step_met, bad_of}
use Rattle.calls.specs.Answers.{rules_in, states_in, ◌or_else◌, refused_if, text_outcome, given}

-- What a log says of the rules of a text's model, and of the states that break one of its properties.
unfoldable pub blame_in : (text log : List ℕ) → Blamed
unfolding blame_of rules_in model_in start_met step_met bad_of
blame_in text log = blame_of (rules_in text) (start_met (model_in text)) (step_met (model_in text)) (bad_of (model_in text)) log

-- 14: the log is empty or has a state of 2^N or more.
unfoldable pub log_outcome : (text log : List ℕ) → Outcome
unfolding refused_if is_log states_in
log_outcome text log = refused_if (not (is_log (states_in text) log)) 14

-- 15: its first state does not meet `init`.
unfoldable pub init_outcome : (text log : List ℕ) → Outcome
unfolding refused_if init_met model_in
init_outcome text log = refused_if (not (init_met (model_in text) (get_or log 0 0))) 15

-- "Both after 9, in this order."
unfoldable pub blame_outcome : (text log : List ℕ) → Outcome
unfolding ◌or_else◌ text_outcome log_outcome init_outcome
blame_outcome text log = text_outcome text or_else log_outcome text log or_else init_outcome text log

unfoldable pub blame_answer : (text log : List ℕ) → Answer Blamed
unfolding given blame_outcome blame_in
blame_answer text log = given (blame_outcome text log) (blame_in text log)
