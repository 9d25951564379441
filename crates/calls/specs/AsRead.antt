-- What the functions below the calls hand on: a text that has been read, alone and with a set of its rules, and a list that has been found.
-- No promise of a call on a text rests on these. Assumes nothing: these are definitions.
use Rattle.std.specs.Prelude.{ℕ, ◌^◌, ◌<◌, ◌≡◌, List, Option, Some, None}
use Rattle.sets.specs.declared.ruleset.RuleSet.{RuleSet}
use Rattle.models.specs.declared.model.Model.{Model}
use Rattle.refusals.specs.declared.refusal.Refusal.{Refusal}
use Rattle.refusals.specs.Numbers.{number_of}
use Rattle.refusals.specs.Answers.{Accepted, Answer, Given, Outcome, Refused, RefusedBy}
use Rattle.models.specs.Reading.{read_model, places_of}
use Rattle.semantics.specs.declared.model_text.ModelText.{ModelText}
use Rattle.calls.specs.Answers.{text_outcome}

-- The places where the parts of the text's model stand.
unfoldable pub places_in : List ℕ → Model
unfolding read_model
places_in text = places_of (read_model text)

-- The text is accepted, and the parts of its model stand at the places m.
pub record IsRead (text : List ℕ) (m : Model) : Type 0 where
  pub outcome : text_outcome text ≡ Accepted
  pub model : m ≡ places_in text

-- The outcome is this refusal.
abbrev pub Refuses : Outcome → Refusal → Type 0
Refuses o e = o ≡ Refused (number_of e.reason) e.line

-- A text that is accepted, with its model.
pub record IsModelOf (text : List ℕ) (m : ModelText) : Type 0 where
  pub same : m.text.now ≡ text
  pub read : IsRead text m.model

-- The same with a set of its rules.
pub record IsAskedOf (text : List ℕ) (S : ℕ) (m : ModelText) (set : RuleSet) : Type 0 where
  pub model : IsModelOf text m
  pub same : set.0 ≡ S
  pub below : S < 2 ^ m.model.rules

-- What finding the list of an accepted text says, as an answer: lent bytes that are too few are number 11.
unfoldable pub of_listed : Option ℕ → Answer ℕ
of_listed (Some n) = Given n
of_listed None = RefusedBy 11 0
