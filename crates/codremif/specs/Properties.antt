-- What is to hold of several properties together, for an accepted text and what the calls answer for it: a named part for each sentence. What holds by
-- one property is what the calls answer for the text with that property alone. From document 02, "Several properties together". The theorem is in
-- `Demands`. Assumes nothing: these are definitions.
use Rattle.std.specs.Prelude.{ℕ, ◌^◌, ◌≤◌, ◌<◌, ◌≡◌, ◌↔◌, ◌⊎◌, Bool, List, length, take}
use Rattle.sets.specs.Cores.{Least}
use Rattle.sets.specs.Lists.{bytes_of}
use Rattle.sets.specs.Tabulated.{tabulate}
use Rattle.sets.specs.Demand3.{Lists}
use Rattle.sets.specs.Joint.{UnionOfCores}
use Rattle.lines.specs.Written.{Within}
use Rattle.refusals.specs.Answers.{Accepted}
use Rattle.models.specs.Written.{written_model, model_in}
use Rattle.models.specs.Changed.{by_property}
use Rattle.systems.specs.System.{Earlier}
use Rattle.sorting.specs.declared.which.WhichList.TheVariants.{Cores}
use Rattle.calls.specs.Answers.{rules_in, judge_in, text_outcome, judge_bytes}
use Rattle.codremif.specs.Demand3.{Judges}
use Rattle.codremif.specs.Suffices.{TextTelling, WroteList}

-- ---- by one property

-- How many properties a text has.
unfoldable pub properties_in : List ℕ → ℕ
unfolding model_in
properties_in text = length (model_in text).props

-- The text with property j alone: the written form of its model without the other property lines.
unfoldable pub text_by : ℕ → List ℕ → List ℕ
text_by j text = written_model (by_property j (model_in text))

-- It is a text for the calls, with the same rules, and its sets are judged by property j.
pub record ByProperty {J L M : Type 0} (w : TextTelling J L M) (text : List ℕ) (j : ℕ) : Type 0 where
  pub accepted : text_outcome (text_by j text) ≡ Accepted
  pub model : model_in (text_by j text) ≡ by_property j (model_in text)
  pub judges : Judges w.calls (text_by j text) (judge_in (text_by j text))

-- The judgements by each property, in the order of the text.
unfoldable pub judgements_by : List ℕ → List (ℕ → Bool)
judgements_by text = tabulate (properties_in text) (λ j. judge_in (text_by j text))

-- ---- together

-- Judging set S shows a run of n states, which is the first in order of the shortest of those that are shown by each property.
pub record FirstShown {J L M : Type 0} (w : TextTelling J L M) (text : List ℕ) (S n : ℕ) (run : List ℕ) : Type 0 where
  -- Judging the set by some property shows it, too.
  pub property : ℕ
  pub within : property < properties_in text
  pub broken : (lent : List ℕ) → 128 ≤ length lent → w.calls.judge (text_by property text) S lent ≡ w.broken n
  pub shown : (lent : List ℕ) → 128 ≤ length lent → take n (judge_bytes (text_by property text) S lent) ≡ run
  -- By no property a shorter one is shown,
  pub shortest : (j : ℕ) → j < properties_in text → (lent : List ℕ) (m : ℕ) → m ≤ 128 → w.calls.judge (text_by j text) S lent ≡ w.broken m → n ≤ m
  -- and of those as long it is the earliest.
  pub first : (j : ℕ) → j < properties_in text → (lent : List ℕ) → w.calls.judge (text_by j text) S lent ≡ w.broken n
      → let other = take n (judge_bytes (text_by j text) S lent) in (run ≡ other) ⊎ Earlier run other

-- A core list in bytes: each union of one core from each property that has no other such union as a proper part, exactly once and nothing else.
pub record JointList (text list : List ℕ) : Type 0 where
  pub sets : List ℕ
  pub written : list ≡ bytes_of sets
  pub unions : Lists sets (Least (UnionOfCores (rules_in text) (judgements_by text)))

-- ---- all of it

pub record SeveralProperties {J L M : Type 0} (w : TextTelling J L M) (text : List ℕ) : Type 0 where
  -- "One to four `prop=` lines may follow `init=`".
  pub count : Within 1 4 (properties_in text)
  pub alone : (j : ℕ) → j < properties_in text → ByProperty w text j
  -- "A set holds if it holds for each": the joint verdict is the conjunction of the verdicts by property.
  pub verdict : (S : ℕ) → S < 2 ^ rules_in text → (lent : List ℕ)
      → (w.calls.judge text S lent ≡ w.calls.holds) ↔ ((j : ℕ) → j < properties_in text → w.calls.judge (text_by j text) S lent ≡ w.calls.holds)
  -- "and a trace ends at the first breach of any": the joint trace is the first in order of the shortest of the traces by property. No trace has more
  -- than 128 states.
  pub trace : (S : ℕ) → S < 2 ^ rules_in text → (lent : List ℕ) (n : ℕ) → n ≤ 128 → w.calls.judge text S lent ≡ w.broken n
      → FirstShown w text S n (take n (judge_bytes text S lent))
  -- "the joint cores are those unions of one core from each property that have no other such union as a proper part": of the list that the call wrote.
  pub cores : (list : List ℕ) → WroteList w Cores text list → JointList text list
