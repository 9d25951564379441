-- The laws of the answer: the call is refused by the first number that fits, and an accepted one answers what the log says of the model.
-- From the definitions in `Answer`, case by case. Assumes nothing.
use Rattle.std.specs.Prelude.{ℕ, ◌^◌, ◌<◌, ◌≡◌, true, false, List, get_or}
use Rattle.std.proofs.Math.Path.{sym}
use Rattle.std.proofs.Common.{arith, pow_mono}
use Rattle.sets.specs.Laws.Cores.{false_if}
use Rattle.sets.specs.Laws.Gathered.{set_of_lt}
use Rattle.refusals.specs.Answers.{Accepted, Given, Outcome, Refused, RefusedBy}
use Rattle.models.specs.Written.{model_in}
use Rattle.logs.specs.Log.{IsLog, is_log, LogSays, blamed_set, blame_of}
use Rattle.logs.proofs.Laws.Log.{is_log_iff, log_says}
use Rattle.semantics.specs.Meaning.{init_met, start_met, step_met, bad_of}
use Rattle.calls.specs.Answers.{rules_in, states_in, text_outcome}
use Rattle.calls.proofs.Laws.Answers.{rules_most, given_accepted, given_refused}
use Rattle.blaming.specs.Answer.{blame_in, blame_outcome, blame_answer}

-- The outcome of the call: refused by the text's number, by 14, by 15, or accepted, the first of these that fits. Demand 1 rests on this for the order of
-- the numbers.
pub record BlameNumbers (text log : List ℕ) (o : Outcome) : Type 0 where
  pub by_text : (number line : ℕ) → text_outcome text ≡ Refused number line → o ≡ Refused number line
  pub by_log : text_outcome text ≡ Accepted → ¬ IsLog (states_in text) log → o ≡ Refused 14 0
  pub by_init : text_outcome text ≡ Accepted → IsLog (states_in text) log → init_met (model_in text) (get_or log 0 0) ≡ false → o ≡ Refused 15 0
  pub by_none : text_outcome text ≡ Accepted → IsLog (states_in text) log → init_met (model_in text) (get_or log 0 0) ≡ true → o ≡ Accepted

pub blame_numbers : (text log : List ℕ) → BlameNumbers text log (blame_outcome text log)
unfolding blame_outcome
blame_numbers text log = record {
  by_text = λ number line e. rw e;
  by_log = λ e n. rw (e, false_if (is_log (states_in text) log) (λ t. n ((is_log_iff (states_in text) log).0 t)));
  by_init = λ e l i. rw (e, (is_log_iff (states_in text) log).1 l, i);
  by_none = λ e l i. rw (e, (is_log_iff (states_in text) log).1 l, i);
}

-- What a log says of a text.
pub blame_says : (text log : List ℕ)
    → LogSays (rules_in text) (start_met (model_in text)) (step_met (model_in text)) (bad_of (model_in text)) log (blame_in text log)
unfolding blame_in
blame_says text log = log_says (rules_in text) (start_met (model_in text)) (step_met (model_in text)) (bad_of (model_in text)) log

-- The blamed rules are a set of the text's.
pub blamed_below : (text log : List ℕ) → (blame_in text log).set < 2 ^ rules_in text
unfolding blame_in blame_of blamed_set
blamed_below text log = set_of_lt (rules_in text) _

pub blame_fits : (text log : List ℕ) → (blame_in text log).set < 65536
blame_fits text log = omega (arith, blamed_below text log, pow_mono (rules_most text))

module _ (text log : List ℕ) where
  pub blame_by_text : {number line : ℕ} → text_outcome text ≡ Refused number line → RefusedBy number line ≡ blame_answer text log
  unfolding blame_answer
  blame_by_text e = sym (given_refused _ ((blame_numbers text log).by_text _ _ e))

  module _ (model : text_outcome text ≡ Accepted) where
    pub blame_by_log : ¬ IsLog (states_in text) log → RefusedBy 14 0 ≡ blame_answer text log
    unfolding blame_answer
    blame_by_log n = sym (given_refused _ ((blame_numbers text log).by_log model n))

    pub blame_by_init : IsLog (states_in text) log → init_met (model_in text) (get_or log 0 0) ≡ false → RefusedBy 15 0 ≡ blame_answer text log
    unfolding blame_answer
    blame_by_init l i = sym (given_refused _ ((blame_numbers text log).by_init model l i))

    pub blame_given : IsLog (states_in text) log → init_met (model_in text) (get_or log 0 0) ≡ true → Given (blame_in text log) ≡ blame_answer text log
    unfolding blame_answer
    blame_given l i = sym (given_accepted _ ((blame_numbers text log).by_none model l i))
