-- The verdict on the full set of a model from its trace, and the verdicts by each property, put one after the other.
-- From the laws of traces, of a text that was read and of a loop that puts. Assumes nothing.
use Prim.Native.Nat.{ℕ, ◌+◌, ◌≤◌, ◌<◌}
use mathlib.Core.Path.{◌≡◌, sym, ap, ap₂, ◌∙◌}
use mathlib.Core.Bool.{true, false}
use mathlib.Core.List.{List, ◌++◌, flat_map}
use mathlib.Mathlib.Data.Bool.Basic.{eq-false_of_not-eq-true}
use native.Mathlib.Omega.{arith}
use lib.Dec.{eqb}
use lib.ListN.{length}
use Rattle.std.proofs.lemmas.Bool.{eqb-true, eqb-false}
use Rattle.sets.specs.Bit.{full}
use Rattle.sets.specs.Tabulated.{tabulate}
use Rattle.sets.specs.Laws.Tabulated.{length_tabulate, get_d_tabulate}
use Rattle.lines.specs.Bytes.{bytes}
use Rattle.lines.specs.Written.{line}
use Rattle.models.specs.declared.model.Model.{Model}
use Rattle.models.specs.Written.{Described, described, model_in}
use Rattle.models.specs.Changed.{by_property}
use Rattle.models.specs.Places.{places_by_property}
use Rattle.models.proofs.Laws.Written.{described_properties}
use Rattle.models.proofs.Laws.Changed.{described_by_property}
use Rattle.traces.specs.declared.trace.Trace.{Trace}
use Rattle.systems.specs.System.{System}
use Rattle.systems.specs.Verdict.{holds, trace_of}
use Rattle.traces.specs.Traced.{states_of, trace_array}
use Rattle.traces.specs.Laws.Traced.{trace_holds, trace_states}
use Rattle.semantics.specs.Meaning.{system_of}
use Rattle.semantics.specs.Few.{Few}
use Rattle.calls.specs.Answers.{rules_in}
use Rattle.calls.specs.AsRead.{IsRead}
use Rattle.calls.proofs.Laws.Answers.{few, read_model_lem, rules_read_lem}
use Rattle.pages.specs.Page.{Page, put}
use Rattle.pages.specs.Numbers.{number_line}
use Rattle.pages.specs.Laws.Putting.{Putting, next, ended, put_as}
use Rattle.sections.specs.Sections.{verdict_lines, verdict_by, verdicts_of}

-- ---- one verdict

lines_held : (N : System) → holds N ≡ true → line (bytes "verdict=") (bytes "holds") ≡ verdict_lines N
unfolding verdict_lines
lines_held N e = rw e

lines_broken : (N : System) → holds N ≡ false → line (bytes "verdict=") (bytes "broken") ++ flat_map (number_line (bytes "state=")) (trace_of N) ≡ verdict_lines N
unfolding verdict_lines
lines_broken N e = rw e

-- The states are those of the trace of the full set S.
module _ (M : Described) (R S : ℕ) (all : S ≡ full R) {t : Trace} {states : List ℕ} (said : t ≡ trace_array (system_of M S)) (told : states ≡ states_of t) where
  N : System
  N = system_of M (full R)

  states_are : states ≡ states_of (trace_array N)
  unfolding N
  states_are = told ∙ ap states_of (said ∙ ap (λ (T : ℕ). trace_array (system_of M T)) all)

  pub verdict_held : eqb (length states) 0 ≡ true → line (bytes "verdict=") (bytes "holds") ≡ verdict_lines (system_of M (full R))
  unfolding N
  verdict_held e = lines_held N ((trace_holds N).0 (sym (ap length states_are) ∙ eqb-true _ _ e))

  pub verdict_broken : eqb (length states) 0 ≡ false
      → line (bytes "verdict=") (bytes "broken") ++ flat_map (number_line (bytes "state=")) states ≡ verdict_lines (system_of M (full R))
  unfolding N
  verdict_broken e =
      ap (λ l. line (bytes "verdict=") (bytes "broken") ++ flat_map (number_line (bytes "state=")) l) (states_are ∙ trace_states N)
      ∙ lines_broken N (eq-false_of_not-eq-true (λ h. eqb-false _ _ e (ap length states_are ∙ (trace_holds N).1 h)))

-- ---- the verdicts by each property

-- The verdicts by the properties before property j are put.
abbrev pub Verdicts : (M : Described) (p₀ p : Page) (j : ℕ) → Type 0
Verdicts M p₀ p j = Putting (verdict_by M) (tabulate (length M.props) (λ j. j)) p₀ p j

module _ (text : List ℕ) (m : Model) (r : IsRead text m) where
  property_count_lem : length (model_in text).props ≡ m.properties
  property_count_lem = ap (λ (M : Described). length M.props) (sym (read_model_lem r)) ∙ described_properties text m

  -- There is an entry for the place of each.
  pub place_fits : (j : ℕ) → j < m.properties → j < 4
  place_fits j h = omega (arith, (few r).properties)

  -- The model with one property alone is no larger.
  pub few_alone : (j : ℕ) (alone : Model) → alone ≡ places_by_property j m → Few alone
  unfolding places_by_property
  few_alone j alone e = rw e (record { vars = (few r).vars; rules = (few r).rules; properties = omega arith })

  verdict_alone : (j : ℕ) → j < m.properties → (alone : Model) → alone ≡ places_by_property j m
      → verdict_lines (system_of (described text alone) (full alone.rules)) ≡ verdict_by (model_in text) j
  unfolding verdict_by places_by_property rules_in
  verdict_alone j h alone e =
      ap₂ (λ (M : Described) (R : ℕ). verdict_lines (system_of M (full R)))
      (ap (described text) e ∙ described_by_property j text m h ∙ ap (by_property j) (read_model_lem r))
      (ap (λ (x : Model). x.rules) e ∙ rules_read_lem r)

  module _ (p₀ p : Page) (j : ℕ) (w : Verdicts (model_in text) p₀ p j) where
    count : length (tabulate (length (model_in text).props) (λ j. j)) ≡ m.properties
    count = length_tabulate (length (model_in text).props) (λ j. j) ∙ property_count_lem

    pub next_put : j < m.properties → (alone : Model) → alone ≡ places_by_property j m
        → (q : Page) → q ≡ put (verdict_lines (system_of (described text alone) (full alone.rules))) p → Verdicts (model_in text) p₀ q (j + 1)
    next_put h alone e q put_is =
        let same = get_d_tabulate (length (model_in text).props) (λ j. j) 0 j (omega (arith, property_count_lem)) in
        next _ _ p₀ p j w (omega (arith, count)) q
        (put_as _ _ p q put_is (verdict_alone j h alone e ∙ ap (verdict_by (model_in text)) (sym same)))

    pub all_put : m.properties ≤ j → p ≡ put (verdicts_of (model_in text)) p₀
    unfolding verdicts_of
    all_put h = ended _ _ p₀ p j w (omega (arith, count))
