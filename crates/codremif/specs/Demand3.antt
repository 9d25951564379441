-- What demand 3 of the mission says of an accepted text and of what the calls for the cores, the cuts and MUST give for it.
-- What it says of the lists and of MUST is `Demand3` of `sets`, for the judgement of the text's sets; here is what that judgement is, and how
-- the calls give the lists. The theorems are in `Demands`. Assumes nothing: these are definitions.
use Rattle.std.specs.Prelude.{ℕ, ◌*◌, ◌^◌, ◌<◌, ◌≤◌, ◌≡◌, ◌↔◌, Bool, true, List, length}
use Rattle.sets.specs.Lists.{bytes_of, overwritten}
use Rattle.sets.specs.Demand3.{Demand3}
use Rattle.systems.specs.System.{Breach}
use Rattle.sorting.specs.declared.which.WhichList.TheVariants.{Cores, Cuts}
use Rattle.sorting.specs.declared.kinds.Kind.TheVariants.{Must}
use Rattle.calls.specs.declared.verdict.Verdict.{Verdict}
use Rattle.refusals.specs.Answers.{Answer, Given, RefusedBy, answer_of}
use Rattle.calls.specs.declared.verdict.Verdict.TheVariants.{Holds}
use Rattle.codremif.specs.declared.together.Together.{Together}
use Rattle.calls.specs.Answers.{rules_in, system_in, judge_answer, list_answer, list_bytes, kind_answer}
use Rattle.packing.specs.Packing.{judge_parts, list_parts, set_parts, packed}

-- ---- how calls tell their answers

-- What judging a set answers, and how it is told that a set holds, how many sets a list has, that the lent bytes are too few (number 11), and
-- which rules MUST has.
pub record Telling (J L M : Type 0) : Type 0 where
  pub judge : List ℕ → ℕ → List ℕ → J
  pub holds : J
  pub count : ℕ → L
  pub short : L
  pub set : ℕ → M

-- The calls in Rattle.
unfoldable pub in_rattle : Telling (Answer Verdict) (Answer ℕ) (Answer ℕ)
unfolding judge_answer
in_rattle = record { judge = judge_answer; holds = Given Holds; count = Given; short = RefusedBy 11 0; set = Given }

-- The exported calls, by their 64-bit numbers.
unfoldable pub for_hosts : Telling ℕ ℕ ℕ
unfolding judge_answer judge_parts packed
for_hosts = record {
  judge = λ text S lent. packed (judge_parts (judge_answer text S lent));
  holds = 2 ^ 40;
  count = λ n. 65536 * n;
  short = 11;
  set = λ S. 65536 * S;
}

-- What was lent to the calls for the cores, the cuts and MUST, and what they gave.
pub record Asked (L M : Type 0) : Type 0 where
  pub cores_lent : List ℕ
  pub cores_answer : L
  pub cores_bytes : List ℕ
  pub cuts_lent : List ℕ
  pub cuts_answer : L
  pub cuts_bytes : List ℕ
  pub must_answer : M

-- ---- the demand

-- Where enough bytes are lent, a call answers the number of sets, and the lent bytes begin with exactly these sets, two bytes each, and keep
-- their content past them; else it is refused by 11 and no byte changes.
pub record GivesList {J L M : Type 0} (w : Telling J L M) (list lent : List ℕ) (answer : L) (bytes : List ℕ) : Type 0 where
  pub count : 2 * length list ≤ length lent → answer ≡ w.count (length list)
  pub written : 2 * length list ≤ length lent → bytes ≡ overwritten (bytes_of list) lent
  pub refused : length lent < 2 * length list → answer ≡ w.short
  pub kept : length lent < 2 * length list → bytes ≡ lent

-- By h a set of the text's rules holds exactly when no run of its system comes to a bad state, and exactly when judging it answers so.
pub record Judges {J L M : Type 0} (w : Telling J L M) (text : List ℕ) (h : ℕ → Bool) : Type 0 where
  pub by_runs : (S : ℕ) → S < 2 ^ rules_in text → (h S ≡ true) ↔ ((run : List ℕ) → Breach (system_in text S) run → ⊥)
  pub by_call : (S : ℕ) → S < 2 ^ rules_in text → (lent : List ℕ) → (h S ≡ true) ↔ (w.judge text S lent ≡ w.holds)

-- A judgement of the text's sets, a core list, a cut list and MUST of which demand 3 is true, and the three calls give these.
pub record TextDemand3 {J L M : Type 0} (w : Telling J L M) (text : List ℕ) (a : Asked L M) : Type 0 where
  pub judgement : ℕ → Bool
  pub judged : Judges w text judgement
  pub cores : List ℕ
  pub cuts : List ℕ
  pub must : ℕ
  pub demanded : Demand3 (rules_in text) judgement cores cuts must
  pub cores_given : GivesList w cores a.cores_lent a.cores_answer a.cores_bytes
  pub cuts_given : GivesList w cuts a.cuts_lent a.cuts_answer a.cuts_bytes
  pub must_given : a.must_answer ≡ w.set must

-- ---- what the calls give

-- What the calls for the cores, the cuts and MUST give, accepted or refused, is what their definitions say.
pub record AsCalled (text : List ℕ) (a : Asked (Answer ℕ) (Answer ℕ)) : Type 0 where
  pub cores : a.cores_answer ≡ list_answer Cores text a.cores_lent
  pub cores_written : a.cores_bytes ≡ list_bytes Cores text a.cores_lent
  pub cuts : a.cuts_answer ≡ list_answer Cuts text a.cuts_lent
  pub cuts_written : a.cuts_bytes ≡ list_bytes Cuts text a.cuts_lent
  pub must : a.must_answer ≡ kind_answer Must text

-- The same as a record of what `codremif::together::ask_all` lent and gave.
unfoldable pub asked : Together → (cores_lent cores_bytes cuts_lent cuts_bytes : List ℕ) → Asked (Answer ℕ) (Answer ℕ)
asked r cores_lent cores_bytes cuts_lent cuts_bytes = record {
  cores_lent = cores_lent;
  cores_answer = answer_of r.cores;
  cores_bytes = cores_bytes;
  cuts_lent = cuts_lent;
  cuts_answer = answer_of r.cuts;
  cuts_bytes = cuts_bytes;
  must_answer = answer_of r.must;
}

-- What codremif_cores, codremif_cuts and codremif_must give for a text and these lent bytes.
unfoldable pub host_asked : (text cores_lent cuts_lent : List ℕ) → Asked ℕ ℕ
unfolding list_answer list_bytes kind_answer list_parts set_parts packed
host_asked text cores_lent cuts_lent = record {
  cores_lent = cores_lent;
  cores_answer = packed (list_parts (list_answer Cores text cores_lent));
  cores_bytes = list_bytes Cores text cores_lent;
  cuts_lent = cuts_lent;
  cuts_answer = packed (list_parts (list_answer Cuts text cuts_lent));
  cuts_bytes = list_bytes Cuts text cuts_lent;
  must_answer = packed (set_parts (kind_answer Must text));
}
