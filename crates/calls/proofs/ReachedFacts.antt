-- Each way out of giving the reached states of a set of a text: the answer, and the lent bytes afterwards.
-- From the ways out of any call that is handed a set (`AskedFacts`) and the search as `searches` gives it. Assumes nothing.
use Prim.Native.Nat.{ℕ, ◌+◌, ◌^◌, ◌≤◌, ◌<◌}
use mathlib.Core.Path.{◌≡◌, refl, sym, ap, ap₂, ◌∙◌}
use mathlib.Core.Bool.{Bool, false}
use mathlib.Core.List.{List, ◌++◌, append-nil}
use native.Mathlib.Omega.{arith}
use mir.Val.{bool_byte}
use lib.ListN.{length, get_or, take, drop, set, drop_of_length-le}
use lib.Seq.{length-take-le}
use lib.Pow.{pow_mono}
use Rattle.sets.specs.declared.ruleset.RuleSet.{RuleSet}
use Rattle.sets.specs.Lists.{overwritten}
use Rattle.sets.specs.Tabulated.{tabulate}
use Rattle.sets.specs.Laws.Tabulated.{get_d_tabulate, same_entries, length_tabulate, next_stored}
use Rattle.refusals.specs.Answers.{Answer, Given, Refused, RefusedBy}
use Rattle.semantics.specs.declared.model_text.ModelText.{ModelText}
use Rattle.semantics.specs.ByText.{described_by}
use Rattle.semantics.specs.Meaning.{system_of}
use Rattle.systems.specs.System.{System}
use Rattle.searches.specs.declared.runs.Reached.{Reached}
use Rattle.traces.specs.Marked.{is_marked}
use Rattle.searches.specs.Search.{search}
use Rattle.searches.specs.Stored.{reached_of}
use Rattle.calls.specs.Answers.{states_in, system_in, marks_in, pairs_in, read_outcome, reached_outcome, reached_answer, reached_bytes}
use Rattle.calls.specs.AsRead.{IsAskedOf}
use Rattle.calls.proofs.Laws.Answers.{text_model, states_read, vars_most, length_marks}
use Rattle.calls.proofs.AskedFacts.{Asked, asked_unread_so, asked_too_few, asked_enough}

-- the byte of a state
abbrev pub mark_byte : List Bool → ℕ → ℕ
mark_byte marks s = bool_byte (get_or marks s false)

-- a call answers `answer` and leaves the lent bytes as `bytes`
abbrev Reaches : List ℕ → ℕ → List ℕ → Answer ℕ → List ℕ → Type 0
Reaches text S lent answer bytes = (answer ≡ reached_answer text S lent) × (bytes ≡ reached_bytes text S lent)

module _ (text : List ℕ) (S : ℕ) (lent : List ℕ) where
  reached_so : {answer : Answer ℕ} {bytes : List ℕ} → Asked text S (pairs_in text S) (marks_in text S) lent answer bytes → Reaches text S lent answer bytes
  unfolding reached_answer reached_bytes reached_outcome
  reached_so g = g

  -- a text or a set that is refused
  pub reached_by_reading : {number line : ℕ} → read_outcome text S ≡ Refused number line → Reaches text S lent (RefusedBy number line) lent
  reached_by_reading e = reached_so (asked_unread_so text S _ _ lent e)

module _ {text : List ℕ} {S : ℕ} {m : ModelText} {set : RuleSet} (r : IsAskedOf text S m set) (lent : List ℕ) where
  -- there is a mark for each state
  marked : length (marks_in text S) ≡ 2 ^ m.model.vars
  marked = length_marks text S ∙ sym (states_read r.model.read)

  pub reached_by_length : length lent < 2 ^ m.model.vars → Reaches text S lent (RefusedBy 11 0) lent
  reached_by_length h = reached_so text S lent (asked_too_few text S _ _ lent r (rw (sym marked) at h))

  -- the search x of the set
  module _ {x : Reached} (said : x ≡ reached_of (system_of (described_by m) set.0)) where
    M : System
    M = system_in text S

    reached_is : x ≡ reached_of M
    unfolding M system_in
    reached_is = said ∙ ap₂ (λ D (n : ℕ). reached_of (system_of D n)) (text_model r.model) r.same

    marks_are : tabulate (2 ^ m.model.vars) (mark_byte x.marks) ≡ marks_in text S
    unfolding M marks_in reached_of
    marks_are =
        ap (λ n. tabulate n (mark_byte x.marks)) (states_read r.model.read)
        ∙ same_entries (states_in text) _ _
        (λ s h.
        ap (λ (y : Reached). mark_byte y.marks s) reached_is
        ∙ ap bool_byte (get_d_tabulate 128 (is_marked (search M).runs) false s (omega (arith, h, few))))
      where
        few : states_in text ≤ 128
        few = omega (arith, pow_mono (vars_most text))

    pub reached_by_none : 2 ^ m.model.vars ≤ length lent
        → Reaches text S lent (Given x.pairs) (overwritten (tabulate (2 ^ m.model.vars) (mark_byte x.marks)) lent)
    unfolding M pairs_in reached_of
    reached_by_none h =
        let g = reached_so text S lent (asked_enough text S _ _ lent r (rw (sym marked) at h)) in
        (ap (λ y. Given y.pairs) reached_is ∙ g.0, ap (λ l. overwritten l lent) marks_are ∙ g.1)

-- the bytes of n states are put over the front
pub front_put : (marks : List Bool) (lent : List ℕ) (n : ℕ) {k : ℕ} {front : List ℕ} → n ≤ length lent
    → front ≡ tabulate (length (take n lent)) (mark_byte marks) → n ≡ k → front ++ drop n lent ≡ overwritten (tabulate k (mark_byte marks)) lent
unfolding overwritten
front_put marks lent n h e q =
    let size : length (take n lent) ≡ n = length-take-le n lent h in
    rw (e, size, sym q, length_tabulate n (mark_byte marks)) refl

-- ---- the bytes are put one after the other

-- those of the states below s
unfoldable pub marks_put : List Bool → List ℕ → ℕ → List ℕ
marks_put marks bytes s = tabulate s (mark_byte marks) ++ drop s bytes

pub none_put : (marks : List Bool) (bytes : List ℕ) → bytes ≡ marks_put marks bytes 0
unfolding marks_put tabulate
none_put marks bytes = refl

pub put_next : (marks : List Bool) (bytes : List ℕ) (s : ℕ) → s < length bytes → set (marks_put marks bytes s) s (mark_byte marks s) ≡ marks_put marks bytes (s + 1)
unfolding marks_put
put_next marks bytes s h = next_stored (mark_byte marks) s bytes h

pub all_put : (marks : List Bool) (bytes : List ℕ) → marks_put marks bytes (length bytes) ≡ tabulate (length bytes) (mark_byte marks)
unfolding marks_put
all_put marks bytes = ap (λ l. tabulate (length bytes) (mark_byte marks) ++ l) (drop_of_length-le bytes (omega arith)) ∙ append-nil _
