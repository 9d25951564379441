-- `blaming::blame::blame` meets its contract: each way out is a case of the answer.
-- From the laws of the answer. Assumes nothing.
use Rattle.std.proofs.Common.{ℕ, ◌^◌, ◌≡◌, sym, ap, ap₂, ◌∙◌, Bool, true, false, List, arith, get_or, rules}
use mathlib.Core.Bool.{true≢false}
use lib.Pow.{pow_mono}
use Rattle.models.specs.Written.{described, model_in}
use Rattle.semantics.specs.declared.model_text.ModelText.{ModelText}
use Rattle.semantics.specs.ByText.{described_by}
use Rattle.logs.specs.declared.blame.Blamed.{Blamed}
use Rattle.logs.specs.Log.{IsLog, is_log, blame_of}
use Rattle.logs.proofs.Laws.Log.{is_log_iff}
use Rattle.semantics.specs.Meaning.{init_met, start_met, step_met, bad_of}
use Rattle.semantics.specs.Places.{meets}
use Rattle.refusals.specs.Answers.{Given, RefusedBy}
use Rattle.calls.specs.AsRead.{IsModelOf}
use Rattle.calls.specs.Answers.{states_in}
use Rattle.calls.proofs.Laws.Answers.{rules_read_lem, states_read, read_model_lem, text_model}
use Rattle.blaming.specs.Answer.{blame_in, blame_answer}
use Rattle.blaming.proofs.Laws.Answer.{blame_by_log, blame_by_init, blame_given}
use Rattle.blaming.proofs.blame.blame.Goals as goal

-- the log is looked at by as many states as the model has, and its first state by the place of `init`
module _ {text : List ℕ} {m : ModelText} (r : IsModelOf text m) (log : List ℕ) {n : ℕ} {b : Bool} (states : n ≡ 2 ^ m.model.vars) (said : b ≡ is_log n log) where
  log_read : b ≡ true → IsLog (2 ^ m.model.vars) log
  log_read t = rw states at ((is_log_iff n log).0 (sym said ∙ t))

  not_a_log : b ≡ false → RefusedBy 14 0 ≡ blame_answer text log
  not_a_log f =
      blame_by_log text log r.read.outcome
      (λ l. true≢false (sym ((is_log_iff n log).1 (rw (states ∙ states_read r.read) l)) ∙ sym said ∙ f))

  module _ (t : b ≡ true) {met : Bool} (asked : met ≡ meets text m.model.init (get_or log 0 0) (get_or log 0 0)) where
    init_read : met ≡ init_met (model_in text) (get_or log 0 0)
    unfolding meets init_met described
    init_read = asked ∙ ap (λ D. init_met D (get_or log 0 0)) (read_model_lem r.read)

    its_log : IsLog (states_in text) log
    its_log = rw (states_read r.read) at (log_read t)

    init_unmet : met ≡ false → RefusedBy 15 0 ≡ blame_answer text log
    init_unmet f = blame_by_init text log r.read.outcome its_log (sym init_read ∙ f)

    -- what is said by the places of the model is what is said of the text
    given : met ≡ true → {x : Blamed} → x ≡ blame_of m.model.rules (start_met (described_by m)) (step_met (described_by m)) (bad_of (described_by m)) log
        → Given x ≡ blame_answer text log
    unfolding blame_in
    given f found =
        ap Given (found ∙ ap₂ (λ (R : ℕ) D. blame_of R (start_met D) (step_met D) (bad_of D) log) (rules_read_lem r.read) (text_model r))
        ∙ blame_given text log r.read.outcome its_log (sym init_read ∙ f)

pub is_log-requires : goal.is_log-requires
is_log-requires c = omega (arith, c.state_count.ensures, pow_mono c.in_ok-m.m.few.vars)

pub returns-then-not-is_log : goal.returns-then-not-is_log
returns-then-not-is_log c =
    rw c.into.ensures
    (not_a_log c.in_ok-m.ensures.read c.args.log.now c.state_count.ensures c.is_log.ensures c.if-not-is_log.true)

pub bounds-log-0 : goal.bounds-log-0
bounds-log-0 c =
    omega
    (arith, (log_read c.in_ok-m.ensures.read c.args.log.now c.state_count.ensures c.is_log.ensures c.if-not-is_log.false).nonempty)

pub returns-then-not-is_met : goal.returns-then-not-is_met
returns-then-not-is_met c =
    rw c.into-then-not-is_met.ensures
    (init_unmet c.in_ok-m.ensures.read c.args.log.now c.state_count.ensures c.is_log.ensures c.if-not-is_log.false c.is_met.ensures c.if-not-is_met.true)

pub blame-blamed-requires : goal.blame-blamed-requires
blame-blamed-requires c =
    record { log = log_read c.in_ok-m.ensures.read c.args.log.now c.state_count.ensures c.is_log.ensures c.if-not-is_log.false }

-- searched for, so that an edit which puts the answer together anew is refused for its parts alone
pub returns : goal.returns
returns c =
    let said = given c.in_ok-m.ensures.read c.args.log.now c.state_count.ensures c.is_log.ensures c.if-not-is_log.false c.is_met.ensures c.if-not-is_met.false c.blame-blamed.ensures in
    search (rules, said)
