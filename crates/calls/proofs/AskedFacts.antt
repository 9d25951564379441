-- Each way out of a call that is handed a set, for any answer and any new bytes: what it answers, and what the lent bytes hold afterwards.
-- From the order of the numbers (`Laws/Answers`). Assumes nothing.
use Rattle.std.specs.Prelude.{ℕ, ◌≤◌, ◌<◌, ◌≡◌, List, length}
use Rattle.std.proofs.Math.Path.{sym}
use Rattle.sets.specs.declared.ruleset.RuleSet.{RuleSet}
use Rattle.sets.specs.Lists.{overwritten}
use Rattle.refusals.specs.Answers.{Answer, Given, Refused, RefusedBy}
use Rattle.semantics.specs.declared.model_text.ModelText.{ModelText}
use Rattle.calls.specs.Answers.{read_outcome, asked_outcome, given, after}
use Rattle.calls.specs.AsRead.{IsAskedOf}
use Rattle.calls.proofs.Laws.Answers.{set_read, given_accepted, given_refused, after_accepted, after_refused, asked_unread, asked_numbers}

module _ {A : Type 0} (text : List ℕ) (S : ℕ) (a : A) (new lent : List ℕ) where
  -- what it answers and leaves, where it would give a and write the new bytes
  abbrev pub Asked : Answer A → List ℕ → Type 0
  Asked answer bytes = (answer ≡ given (asked_outcome text S new lent) a) × (bytes ≡ after (asked_outcome text S new lent) new lent)

  refused : {number line : ℕ} → asked_outcome text S new lent ≡ Refused number line → Asked (RefusedBy number line) lent
  refused e = (sym (given_refused _ e), sym (after_refused _ _ e))

  -- the text or the set is refused
  pub asked_unread_so : {number line : ℕ} → read_outcome text S ≡ Refused number line → Asked (RefusedBy number line) lent
  asked_unread_so e = refused (asked_unread text S new lent e)

  module _ {m : ModelText} {set : RuleSet} (r : IsAskedOf text S m set) where
    pub asked_too_few : length lent < length new → Asked (RefusedBy 11 0) lent
    asked_too_few h = refused ((asked_numbers text S new lent).by_length r.model.read.outcome (set_read r.model.read r.below) h)

    pub asked_enough : length new ≤ length lent → Asked (Given a) (overwritten new lent)
    asked_enough h =
        let e = (asked_numbers text S new lent).by_none r.model.read.outcome (set_read r.model.read r.below) h in
        (sym (given_accepted _ e), sym (after_accepted _ _ e))
