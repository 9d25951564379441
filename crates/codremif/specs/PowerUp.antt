-- What is to hold of rules that speak about power-up, for an accepted text: a named part for each sentence.
-- From document 02, "Rules that speak about power-up". The theorem is in `Demands`. Assumes nothing: these are definitions.
use Rattle.std.specs.Prelude.{ℕ, ◌^◌, ◌≤◌, ◌<◌, ◌≡◌, ◌↔◌, true, List, length}
use Rattle.std.proofs.Math.Option.{none}
use Rattle.sets.specs.Bit.{has}
use Rattle.models.specs.Written.{Described, rule_at, written_model, model_in}
use Rattle.models.specs.Changed.{starts_written_out}
use Rattle.systems.specs.System.{System}
use Rattle.semantics.specs.Meaning.{init_met, start_met, step_of, bad_of}
use Rattle.sorting.specs.declared.which.WhichList.{WhichList}
use Rattle.sorting.specs.declared.kinds.Kind.{Kind}
use Rattle.calls.specs.declared.verdict.Verdict.TheVariants.{Holds, Broken}
use Rattle.refusals.specs.Answers.{Given}
use Rattle.calls.specs.Answers.{rules_in, states_in, system_in, judge_answer, judge_bytes, reached_answer, reached_bytes, list_answer, list_bytes, kind_answer}
use Rattle.preferences.specs.Answer.{one_core_answer}
use Rattle.blaming.specs.Answer.{blame_answer}

-- The state s meets `init` and the start part of each rule in the set S.
abbrev pub MeetsAtStart : List ℕ → ℕ → ℕ → Type 0
MeetsAtStart text S s = (init_met (model_in text) s ≡ true) × ((i : ℕ) → i < rules_in text → has S i ≡ true → start_met (model_in text) i s ≡ true)

-- The system of a set as document 01 has it: "The start states are those that meet `init`, whichever set is judged."
unfoldable pub system_by_init : Described → ℕ → System
system_by_init M S = record { size = 2 ^ M.vars; start = init_met M; step = step_of M S; bad = bad_of M }

-- The text with each missing start part written out as `1`.
unfoldable pub starts_written_in : List ℕ → List ℕ
unfolding model_in starts_written_out written_model
starts_written_in text = written_model (starts_written_out (model_in text))

-- Each call that reads a text answers the same to both, and leaves the same bytes.
pub record SameAnswers (text first : List ℕ) : Type 0 where
  pub judged : (S : ℕ) (lent : List ℕ) → judge_answer text S lent ≡ judge_answer first S lent
  pub traced : (S : ℕ) (lent : List ℕ) → judge_bytes text S lent ≡ judge_bytes first S lent
  pub reached : (S : ℕ) (lent : List ℕ) → reached_answer text S lent ≡ reached_answer first S lent
  pub marked : (S : ℕ) (lent : List ℕ) → reached_bytes text S lent ≡ reached_bytes first S lent
  pub counted : (which : WhichList) (lent : List ℕ) → list_answer which text lent ≡ list_answer which first lent
  pub listed : (which : WhichList) (lent : List ℕ) → list_bytes which text lent ≡ list_bytes which first lent
  pub sorted : (kind : Kind) → kind_answer kind text ≡ kind_answer kind first
  pub ordered : (order : List ℕ) → one_core_answer text order ≡ one_core_answer first order
  pub blamed : (log : List ℕ) → blame_answer text log ≡ blame_answer first log

pub record PowerUp (text : List ℕ) : Type 0 where
  -- "The start states of a set are from now on those that meet `init` and the start part of each rule in the set."
  pub starts : (S s : ℕ) → ((system_in text S).start s ≡ true) ↔ MeetsAtStart text S s
  -- So judging a set shows one state exactly when such a state breaks a property,
  pub at_once : (S : ℕ) → S < 2 ^ rules_in text → (lent : List ℕ) → 1 ≤ length lent
      → (judge_answer text S lent ≡ Given (Broken 1)) ↔ ((s : ℕ) × (s < states_in text) × MeetsAtStart text S s × (bad_of (model_in text) s ≡ true))
  -- and a set that no state meets at the start is judged to hold.
  pub no_start : (S : ℕ) → S < 2 ^ rules_in text → ((s : ℕ) → s < states_in text → ¬ MeetsAtStart text S s) → (lent : List ℕ) → judge_answer text S lent ≡ Given Holds
  -- "a missing one counts as `1`."
  pub as_one : SameAnswers (starts_written_in text) text
  -- "an accepted model without start parts reports as before": each set has the system that it had.
  pub as_before : ((i : ℕ) → i < rules_in text → (rule_at (model_in text).rules i).start ≡ none) → (S : ℕ) → system_in text S ≡ system_by_init (model_in text) S
