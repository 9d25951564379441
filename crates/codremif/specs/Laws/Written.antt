-- The written form of a legal model, as a text for the calls: it is accepted, and has the rules, the runs and the verdicts of the model.
-- From the reading being right (`Rattle.models.proofs.Accepted`).
use Rattle.std.specs.Prelude.{ℕ, ◌≡◌, refl, List}
use Rattle.std.proofs.Math.Path.{ap}
use Rattle.std.proofs.Math.ListN.{length}
use Rattle.refusals.specs.Answers.{Accepted}
use Rattle.models.specs.Written.{Described, Legal, written_model, model_in}
use Rattle.models.proofs.Accepted.{accepts_what_is_written, told, told_back}
use Rattle.semantics.specs.Meaning.{system_of, judge}
use Rattle.calls.specs.Answers.{rules_in, system_in, judge_in, text_outcome}

module _ (M : Described) (l : Legal M) where
  pub written_accepted : text_outcome (written_model M) ≡ Accepted
  unfolding text_outcome
  written_accepted = (accepts_what_is_written (written_model M)).1 (M, l, refl)

  pub written_rules : rules_in (written_model M) ≡ length M.rules
  unfolding rules_in
  written_rules = ap (λ D. length D.rules) (told_back M l)

  pub written_system : (S : ℕ) → system_in (written_model M) S ≡ system_of M S
  unfolding system_in
  written_system S = ap (λ D. system_of D S) (told_back M l)

  pub written_judge : (S : ℕ) → judge_in (written_model M) S ≡ judge M S
  unfolding judge_in
  written_judge S = ap (λ D. judge D S) (told_back M l)

pub told_legal : (text : List ℕ) → text_outcome text ≡ Accepted → Legal (model_in text)
unfolding text_outcome
told_legal text model = (told text model).legal
