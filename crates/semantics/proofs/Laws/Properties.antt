-- A model with several properties and the models with one of them alone: a state is bad exactly when it is bad by some property, so the verdict and
-- the trace of each set are joint ones. From the laws of systems with several properties.
use Rattle.std.specs.Prelude.{ℕ, ◌<◌, ◌≡◌, ◌↔◌, true, length}
use Rattle.std.proofs.Math.Path.{refl, ap}
use Rattle.std.proofs.Common.{sym, ◌∙◌}
use Rattle.std.proofs.Math.Bool.{not, false≢true}
use Rattle.std.proofs.lemmas.Bool.{not-true}
use Rattle.sets.specs.Laws.Cores.{false_if}
use Rattle.models.specs.Written.{Described}
use Rattle.models.specs.Changed.{by_property}
use Rattle.systems.specs.Properties.{Jointly, JointlyJudged}
use Rattle.systems.proofs.Properties.{jointly_judged}
use Rattle.semantics.specs.Meaning.{every, property_met, init_met, start_met, start_of, bad_of, step_met, step_of, system_of}
use Rattle.semantics.proofs.Laws.Meaning.{every_iff, one_fails}

module _ (M : Described) where
  -- By property j alone a state is bad if it breaks that property.
  bad_by : (j s : ℕ) → bad_of (by_property j M) s ≡ not (property_met M j s)
  unfolding bad_of every property_met by_property
  bad_by j s = refl

  -- A state is bad exactly when it is bad by some property.
  bad_iff : (s : ℕ) → (bad_of M s ≡ true) ↔ ((j : ℕ) × (j < length M.props) × (bad_of (by_property j M) s ≡ true))
  unfolding bad_of
  bad_iff s = (
    λ e. let w = one_fails (length M.props) (λ j. property_met M j s) (not-true _ e) in (w.0, w.1, bad_by w.0 s ∙ ap not w.2),
    λ w. ap not
        (false_if (every (length M.props) (λ j. property_met M j s))
        (λ e. false≢true (sym (not-true _ (sym (bad_by w.0 s) ∙ w.2)) ∙ (every_iff (length M.props) (λ j. property_met M j s)).0 e w.0 w.1))),
  )

  -- The system of a set is the joint one of those by each property.
  jointly : (S : ℕ) → Jointly (system_of M S) (length M.props) (λ j. system_of (by_property j M) S)
  unfolding system_of by_property start_of init_met start_met step_of step_met
  jointly S = record { size = λ j _. refl; start = λ j _ s. refl; step = λ j _ s t. refl; bad = bad_iff }

  -- So are its verdict and its trace.
  pub judged_jointly : (S : ℕ) → JointlyJudged (system_of M S) (length M.props) (λ j. system_of (by_property j M) S)
  judged_jointly S = jointly_judged (jointly S)
