-- Each way out of judging a set of a text: the answer, and the lent bytes afterwards.
-- From the ways out of any call that is handed a set (`AskedFacts`) and the trace as `searches` gives it. Assumes nothing.
use Prim.Native.Nat.{ℕ, ◌≤◌, ◌<◌}
use mathlib.Core.Path.{◌≡◌, refl, sym, ap, ap₂, ◌∙◌}
use mathlib.Core.Logic.{◌≢◌}
use mathlib.Core.Bool.{true, false}
use mathlib.Core.List.{List, [], ◌∷◌, ◌++◌}
use mathlib.Mathlib.Data.Bool.Basic.{eq-false_of_not-eq-true, eq-true_of_not-eq-false}
use native.Mathlib.Omega.{arith}
use lib.Dec.{eqb}
use lib.ListN.{length, drop}
use Rattle.std.proofs.lemmas.Bool.{eqb-true, eqb-false}
use Rattle.sets.specs.declared.ruleset.RuleSet.{RuleSet}
use Rattle.sets.specs.Lists.{overwritten}
use Rattle.refusals.specs.Answers.{Answer, Given, Refused, RefusedBy}
use Rattle.systems.specs.System.{System}
use Rattle.systems.specs.Verdict.{holds, trace_of}
use Rattle.systems.specs.Judged.{judged}
use Rattle.semantics.specs.declared.model_text.ModelText.{ModelText}
use Rattle.semantics.specs.ByText.{described_by}
use Rattle.semantics.specs.Meaning.{system_of}
use Rattle.traces.specs.declared.trace.Trace.{Trace}
use Rattle.traces.specs.Traced.{states_of, trace_array}
use Rattle.traces.specs.Laws.Traced.{trace_states}
use Rattle.calls.specs.declared.verdict.Verdict.{Verdict}
use Rattle.calls.specs.declared.verdict.Verdict.TheVariants.{Holds, Broken}
use Rattle.calls.specs.Answers.{system_in, trace_in, read_outcome, judge_outcome, verdict_of, judge_answer, judge_bytes}
use Rattle.calls.specs.AsRead.{IsAskedOf}
use Rattle.calls.proofs.Laws.Answers.{text_model, verdict_held, verdict_broken}
use Rattle.calls.proofs.AskedFacts.{Asked, asked_unread_so, asked_too_few, asked_enough}

-- a call answers `answer` and leaves the lent bytes as `bytes`
abbrev pub Gives : List ℕ → ℕ → List ℕ → Answer Verdict → List ℕ → Type 0
Gives text S lent answer bytes = (answer ≡ judge_answer text S lent) × (bytes ≡ judge_bytes text S lent)

module _ (text : List ℕ) (S : ℕ) (lent : List ℕ) where
  judged_so : {answer : Answer Verdict} {bytes : List ℕ} → Asked text S (verdict_of (system_in text S)) (trace_in text S) lent answer bytes → Gives text S lent answer bytes
  unfolding judge_answer judge_bytes judge_outcome
  judged_so g = g

  -- a text or a set that is refused
  pub by_reading : {number line : ℕ} → read_outcome text S ≡ Refused number line → Gives text S lent (RefusedBy number line) lent
  by_reading e = judged_so (asked_unread_so text S _ _ lent e)

-- what is found is the trace of the text's set
module _ {text : List ℕ} {S : ℕ} {m : ModelText} {set : RuleSet} (r : IsAskedOf text S m set) where
  pub trace_told : {t : Trace} → t ≡ trace_array (system_of (described_by m) set.0) → states_of t ≡ trace_in text S
  unfolding trace_in system_in
  trace_told said =
      let M : System = system_in text S in
      rw (said ∙ ap₂ (λ D (x : ℕ). trace_array (system_of D x)) (text_model r.model) r.same) (trace_states M)

  module _ (lent : List ℕ) {states : List ℕ} (told : states ≡ trace_in text S) where
    M : System
    M = system_in text S

    is_trace : states ≡ trace_of M
    unfolding M trace_in
    is_trace = told

    pub by_length : length lent < length states → Gives text S lent (RefusedBy 11 0) lent
    by_length h = judged_so text S lent (asked_too_few text S _ _ lent r (rw told at h))

    enough : length states ≤ length lent → Gives text S lent (Given (verdict_of M)) (overwritten states lent)
    unfolding M
    enough h = rw told (judged_so text S lent (asked_enough text S _ _ lent r (rw told at h)))

    no_trace : (l : List ℕ) → length l ≡ 0 → lent ≡ overwritten l lent
    unfolding overwritten
    no_trace [] h = refl
    no_trace (s ∷ l) h = absurd (omega arith)

    pub by_none : length states ≤ length lent → eqb (length states) 0 ≡ true → Gives text S lent (Given Holds) lent
    by_none h e =
        let z : length states ≡ 0 = eqb-true _ _ e in
        let held : holds M ≡ true = eq-true_of_not-eq-false (λ b. omega (arith, (judged M).at_least_one b, ap length is_trace, z)) in
        let g = enough h in
        (ap Given (sym (verdict_held M held)) ∙ g.0, no_trace states z ∙ g.1)

    pub by_trace : length states ≤ length lent → eqb (length states) 0 ≡ false → Gives text S lent (Given (Broken (length states))) (overwritten states lent)
    by_trace h e =
        let z : length states ≢ 0 = eqb-false _ _ e in
        let broken : holds M ≡ false = eq-false_of_not-eq-true (λ q. z (ap length is_trace ∙ ap length ((judged M).held q))) in
        let g = enough h in
        (ap Given (ap Broken (ap length is_trace) ∙ sym (verdict_broken M broken)) ∙ g.0, g.1)

-- the states go over the front of the lent bytes
pub front_written : (lent states : List ℕ) {front : List ℕ} → front ≡ states → front ++ drop (length states) lent ≡ overwritten states lent
unfolding overwritten
front_written lent states e = ap (λ l. l ++ drop (length states) lent) e
