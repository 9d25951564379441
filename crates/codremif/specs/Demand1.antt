-- What demand 1 of the mission says of the calls: each is refused by the first fitting number, and then every other part of the answer is 0 and no
-- lent byte has changed; where no number fits it is accepted. The numbers of the text are those of `Rattle.models.specs.Refusals`; the calls add
-- theirs. The theorems are in `Demands`. From document 01, "When a call is turned away". Assumes nothing: these are definitions.
use Rattle.packing.specs.declared.parts.Parts.{Parts}
use Rattle.std.specs.Prelude.{ℕ, ◌+◌, ◌-◌, ◌*◌, ◌%◌, ◌^◌, ◌≤◌, ◌<◌, ◌≡◌, ◌↔◌, ◌⊎◌, false, List, [], length, get_or}
use Rattle.sets.specs.Orders.{IsOrder}
use Rattle.models.specs.Refusals.{FitsAt, ComesBefore}
use Rattle.models.specs.Written.{model_in}
use Rattle.systems.specs.System.{Trace}
use Rattle.logs.specs.Log.{IsLog}
use Rattle.semantics.specs.Meaning.{init_met}
use Rattle.sorting.specs.declared.which.WhichList.{WhichList}
use Rattle.sorting.specs.declared.kinds.Kind.{Kind}
use Rattle.refusals.specs.Answers.{RefusedBy, Answer}
use Rattle.calls.specs.Answers.{rules_in, states_in, system_in, list_in, judge_answer, judge_bytes, reached_answer, reached_bytes, list_answer, list_bytes, kind_answer}
use Rattle.preferences.specs.Answer.{one_core_answer}
use Rattle.blaming.specs.Answer.{blame_answer}
use Rattle.packing.specs.Packing.{refused, judge_parts, reached_parts, list_parts, set_parts, one_core_parts, blame_parts, breach_number, packed}

-- ---- the numbers of each call

-- A call adds numbers of its own to those of the text, 1 to 9: each where its ground is met, and with line 0.
pub data CallFits (text : List ℕ) (Own : ℕ → Type 0) : (number line : ℕ) → Type 0 where
  text_fits : {number line : ℕ} → FitsAt text number line → CallFits text Own number line
  own_fits : {number : ℕ} → Own number → CallFits text Own number 0

-- A call that is handed a set: 10 and 11.
pub data AskedOwn (text : List ℕ) (S : ℕ) (TooFew : Type 0) : ℕ → Type 0 where
  -- "The judged set is 2^R or more (line 0)."
  set_beyond : 2 ^ rules_in text ≤ S → AskedOwn text S TooFew 10
  -- "The lent bytes are fewer than this answer's trace or list needs (line 0)."
  bytes_fewer : TooFew → AskedOwn text S TooFew 11

-- Judging a set needs one byte for each state of the trace,
pub record TraceLonger (text : List ℕ) (S : ℕ) (lent : List ℕ) : Type 0 where
  pub run : List ℕ
  pub trace : Trace (system_in text S) run
  pub longer : length lent < length run

abbrev pub JudgeFits : (text : List ℕ) (S : ℕ) (lent : List ℕ) (number line : ℕ) → Type 0
JudgeFits text S lent = CallFits text (AskedOwn text S (TraceLonger text S lent))

-- and its reached states one byte for each state of the model.
abbrev pub ReachedFits : (text : List ℕ) (S : ℕ) (lent : List ℕ) (number line : ℕ) → Type 0
ReachedFits text S lent = CallFits text (AskedOwn text S (length lent < states_in text))

-- Listing the cores or the cuts: 11. Each set takes two bytes.
pub data ListOwn (which : WhichList) (text lent : List ℕ) : ℕ → Type 0 where
  list_longer : length lent < 2 * length (list_in which text) → ListOwn which text lent 11

abbrev pub ListFits : (which : WhichList) (text lent : List ℕ) (number line : ℕ) → Type 0
ListFits which text lent = CallFits text (ListOwn which text lent)

-- Finding one core: 13, "the order is not R bytes that have each place from 0 to R - 1 exactly once".
pub data OneCoreOwn (text order : List ℕ) : ℕ → Type 0 where
  no_order : ¬ IsOrder (rules_in text) order → OneCoreOwn text order 13

abbrev pub OneCoreFits : (text order : List ℕ) (number line : ℕ) → Type 0
OneCoreFits text order = CallFits text (OneCoreOwn text order)

-- Blame from a log: 14, "the log is empty or has a state of 2^N or more", and 15, "its first state does not meet `init`".
pub data BlameOwn (text log : List ℕ) : ℕ → Type 0 where
  no_log : ¬ IsLog (states_in text) log → BlameOwn text log 14
  init_unmet : init_met (model_in text) (get_or log 0 0) ≡ false → BlameOwn text log 15

abbrev pub BlameFits : (text log : List ℕ) (number line : ℕ) → Type 0
BlameFits text log = CallFits text (BlameOwn text log)

-- Giving MUST, MAY or the irrelevant rules: 1 to 9, as `FitsAt` has them.

-- ---- the order

-- "Numbers 1 to 8 are tried line by line, in this order within a line; after the whole text come 9, 10 and 11." 13 "is tried after number 9", and 14 and
-- 15 "both after 9, in this order".
abbrev pub TriedBefore : (number line number' line' : ℕ) → Type 0
TriedBefore number line number' line' =
    ((number ≤ 9) × (9 < number')) ⊎ (((9 < number) × (number < number')) ⊎ ((number ≤ 9) × ((number' ≤ 9) × ComesBefore number line number' line')))

-- The number fits with the line, and none that is tried before it fits.
pub record FirstOf (Fits : ℕ → ℕ → Type 0) (number line : ℕ) : Type 0 where
  pub fits : Fits number line
  pub none : (number' line' : ℕ) → TriedBefore number' line' number line → ¬ Fits number' line'

-- ---- the demand

-- A call that the numbers `Fits` can refuse, with these lent bytes, gave the answer and left the bytes.
pub record Refusals {A : Type 0} (Fits : ℕ → ℕ → Type 0) (parts : Answer A → Parts) (lent : List ℕ) (answer : Answer A) (bytes : List ℕ) : Type 0 where
  -- It is refused by a number with its line exactly when this is the first that fits.
  pub first : (number line : ℕ) → (answer ≡ RefusedBy number line) ↔ FirstOf Fits number line
  -- Where no number fits it is accepted, and only there.
  pub accepted : ((number line : ℕ) → ¬ (answer ≡ RefusedBy number line)) ↔ ((number line : ℕ) → ¬ Fits number line)
  -- Refused, every other part of the answer is 0, and no lent byte has changed.
  pub zero : (number line : ℕ) → answer ≡ RefusedBy number line → parts answer ≡ refused number line
  pub kept : (number line : ℕ) → answer ≡ RefusedBy number line → bytes ≡ lent

-- Every call, for a text, every set and all lent bytes.
pub record Demand1 (text : List ℕ) : Type 0 where
  pub judge : (S : ℕ) (lent : List ℕ) → Refusals (JudgeFits text S lent) judge_parts lent (judge_answer text S lent) (judge_bytes text S lent)
  pub reached : (S : ℕ) (lent : List ℕ)
      → Refusals (ReachedFits text S lent) reached_parts lent (reached_answer text S lent) (reached_bytes text S lent)
  pub list : (which : WhichList) (lent : List ℕ)
      → Refusals (ListFits which text lent) list_parts lent (list_answer which text lent) (list_bytes which text lent)
  pub kind : (kind : Kind) → Refusals (FitsAt text) set_parts [] (kind_answer kind text) []
  pub one_core : (order : List ℕ) → Refusals (OneCoreFits text order) one_core_parts [] (one_core_answer text order) []
  pub blame : (log : List ℕ) → Refusals (BlameFits text log) blame_parts [] (blame_answer text log) []

-- ---- the same of the exported calls

-- The 64-bit answer x of such a call: its lowest byte is 0 exactly where no number fits; else x has the first fitting number and its line, and
-- nothing else, and no lent byte has changed.
pub record HostRefusals (Fits : ℕ → ℕ → Type 0) (lent : List ℕ) (x : ℕ) (bytes : List ℕ) : Type 0 where
  pub accepted : (x % 256 ≡ 0) ↔ ((number line : ℕ) → ¬ Fits number line)
  pub first : (number line : ℕ) → FirstOf Fits number line → x ≡ number + 256 * line
  pub kept : (number line : ℕ) → FirstOf Fits number line → bytes ≡ lent

pub record HostDemand1 (text : List ℕ) : Type 0 where
  pub judge : (S : ℕ) (lent : List ℕ) → HostRefusals (JudgeFits text S lent) lent (packed (judge_parts (judge_answer text S lent))) (judge_bytes text S lent)
  pub reached : (S : ℕ) (lent : List ℕ)
      → HostRefusals (ReachedFits text S lent) lent (packed (reached_parts (reached_answer text S lent))) (reached_bytes text S lent)
  pub list : (which : WhichList) (lent : List ℕ)
      → HostRefusals (ListFits which text lent) lent (packed (list_parts (list_answer which text lent))) (list_bytes which text lent)
  pub kind : (kind : Kind) → HostRefusals (FitsAt text) [] (packed (set_parts (kind_answer kind text))) []
  pub one_core : (order : List ℕ) → HostRefusals (OneCoreFits text order) [] (packed (one_core_parts (one_core_answer text order))) []
  pub blame : (log : List ℕ) → HostRefusals (BlameFits text log) [] (packed (blame_parts (blame_answer text log))) []
  -- A place has no room for a number: codremif_breach tells a refusal by 2^64 - 1.
  pub breach : (log : List ℕ) (number line : ℕ) → FirstOf (BlameFits text log) number line → breach_number (length log) (blame_answer text log) ≡ 2 ^ 64 - 1
