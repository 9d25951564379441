-- The log of an accepted call is, up to the first state that breaks a property, a run of the full set without the blamed rules, and ends in a bad state;
-- so that set is broken. From what a log says, and the start states and steps of a model's sets. Assumes nothing.
use Rattle.std.specs.Prelude.{ℕ, suc, ◌-◌, ◌<◌, ◌≡◌, true, false, List, Some, length, get_or, take}
use mathlib.Mathlib.Data.Bool.Basic.{eq-true_of_not-eq-false}
use Rattle.sets.specs.Bit.{has, full}
use Rattle.sets.specs.Laws.Bit.{has_rest}
use Rattle.models.specs.Written.{model_in}
use Rattle.systems.specs.System.{Breach}
use Rattle.systems.specs.Laws.Holds.{breach_broken}
use Rattle.logs.specs.Log.{IsLog, LogSays}
use Rattle.logs.specs.Laws.Run.{breach_to}
use Rattle.semantics.specs.Meaning.{init_met, start_met, step_met, bad_of, system_of, judge}
use Rattle.semantics.proofs.Laws.Meaning.{start_iff, step_iff}
use Rattle.calls.specs.Answers.{rules_in, states_in, system_in, judge_in}
use Rattle.blaming.specs.Answer.{blame_in}
use Rattle.blaming.proofs.Laws.Answer.{blame_says, blamed_below}

module _ (text log : List ℕ) (l : IsLog (states_in text) log) (init : init_met (model_in text) (get_or log 0 0) ≡ true) where
  abbrev says : LogSays (rules_in text) (start_met (model_in text)) (step_met (model_in text)) (bad_of (model_in text)) log (blame_in text log)
  says = blame_says text log

  -- All rules but the blamed ones.
  abbrev kept : ℕ
  kept = full (rules_in text) - (blame_in text log).set

  -- Neither part of them fails in the log.
  not_blamed : (i : ℕ) → has kept i ≡ true → ¬ (has (blame_in text log).set i ≡ true)
  not_blamed i e = ((has_rest (rules_in text) (blame_in text log).set i (blamed_below text log)).0 e).1

  starts : (system_in text kept).start (get_or log 0 0) ≡ true
  unfolding system_in system_of rules_in
  starts =
      (start_iff (model_in text) kept (get_or log 0 0)).1
      (init, λ i h e. eq-true_of_not-eq-false (λ f. not_blamed i e (says.at_start i h f)))

  steps : (k : ℕ) → suc k < length log → (system_in text kept).step (get_or log k 0) (get_or log (suc k) 0) ≡ true
  unfolding system_in system_of rules_in
  steps k g =
      (step_iff (model_in text) kept (get_or log k 0) (get_or log (suc k) 0)).1
      (λ i h e. eq-true_of_not-eq-false (λ f. not_blamed i e (says.at_step i k h g f)))

  -- The log up to the breach is a run, ending in a bad state, of the full set without the blamed rules.
  module _ {place : ℕ} (breach : (blame_in text log).breach ≡ Some place) where
    pub log_breach : Breach (system_in text kept) (take (suc place) log)
    unfolding system_in system_of states_in
    log_breach = breach_to (system_in text kept) log l starts steps place (rw breach at says.within) (rw breach at says.breaks)

    -- So that set is broken.
    pub kept_broken : judge_in text kept ≡ false
    unfolding judge_in judge system_in
    kept_broken = breach_broken log_breach
