-- What is to hold of the quick answer in the configuration screen: for any set and any two lists, and for the two lists of an accepted text.
-- From document 02, "Quick answer in the configuration screen". The theorem is in `Demands`. Assumes nothing: these are definitions.
use Rattle.std.specs.Prelude.{ℕ, suc, ◌+◌, ◌-◌, ◌*◌, ◌^◌, ◌≤◌, ◌<◌, ◌≡◌, ◌↔◌, ◌⊎◌, List, [], ◌∷◌, length, get_or, take}
use Rattle.sorting.specs.declared.which.WhichList.{WhichList}
use Rattle.sorting.specs.declared.which.WhichList.TheVariants.{Cores, Cuts}
use Rattle.refusals.specs.Answers.{Accepted, Answer, RefusedBy, Given}
use Rattle.lookup.specs.declared.answer.Suffices.{Suffices}
use Rattle.lookup.specs.declared.answer.Suffices.TheVariants.{CoreInside, CutApart, Unlisted}
use Rattle.lookup.specs.Suffices.{suffices_answer, witness_of, SufficesTelling, by_answer, SaidOf}
use Rattle.calls.specs.declared.verdict.Verdict.{Verdict}
use Rattle.calls.specs.declared.verdict.Verdict.TheVariants.{Broken}
use Rattle.calls.specs.Answers.{rules_in, text_outcome, list_answer, list_bytes}
use Rattle.packing.specs.Packing.{list_parts, suffices_parts, witness_place, packed}
use Rattle.codremif.specs.Demand3.{Telling, in_rattle, for_hosts}

-- ---- any two lists

-- What codremif_suffices and codremif_witness answer to the same set and lists.
pub record HostSaid : Type 0 where
  pub suffices : ℕ
  pub witness : ℕ

unfoldable pub host_said : Answer Suffices → HostSaid
host_said a = record { suffices = packed (suffices_parts a); witness = witness_place a }

-- How the two exported calls tell an answer.
unfoldable pub by_hosts : SufficesTelling HostSaid
by_hosts = record {
  odd = record { suffices = 12; witness = 2 ^ 64 - 1 };
  inside = λ place. record { suffices = 65536 + 2 ^ 40; witness = place };
  apart = λ place. record { suffices = 2 * 65536; witness = place };
  unlisted = record { suffices = 0; witness = 2 ^ 64 - 1 };
}

-- The two bytes of a list at a place.
unfoldable pub bytes_at : List ℕ → ℕ → List ℕ
bytes_at list place = get_or list place 0 ∷ get_or list (suc place) 0 ∷ []

-- The witness that is returned, where the set was answered so.
pub record Witnessed (S : ℕ) (cores cuts : List ℕ) : Type 0 where
  pub inside : (place : ℕ) → suffices_answer S cores cuts ≡ Given (CoreInside place) → witness_of S cores cuts ≡ bytes_at cores place
  pub apart : (place : ℕ) → suffices_answer S cores cuts ≡ Given (CutApart place) → witness_of S cores cuts ≡ bytes_at cuts place
  pub unlisted : suffices_answer S cores cuts ≡ Given Unlisted → witness_of S cores cuts ≡ []
  pub refused : suffices_answer S cores cuts ≡ RefusedBy 12 0 → witness_of S cores cuts ≡ []

-- ---- the lists of a text

-- How calls tell their answers (`Telling`), and beside that how it is told that a set is broken by a trace of so many states, and what listing answers.
pub record TextTelling (J L M : Type 0) : Type 0 where
  pub calls : Telling J L M
  pub broken : ℕ → J
  pub list : WhichList → List ℕ → List ℕ → L

unfoldable pub text_by_answers : TextTelling (Answer Verdict) (Answer ℕ) (Answer ℕ)
text_by_answers = record { calls = in_rattle; broken = λ n. Given (Broken n); list = list_answer }

unfoldable pub text_by_hosts : TextTelling ℕ ℕ ℕ
text_by_hosts = record { calls = for_hosts; broken = λ n. 65536 * n; list = λ which text lent. packed (list_parts (list_answer which text lent)) }

-- A list as the call for the cores or the cuts wrote it: two bytes for each set that the call counted, at the front of what was lent.
pub record WroteList {J L M : Type 0} (w : TextTelling J L M) (which : WhichList) (text list : List ℕ) : Type 0 where
  pub lent : List ℕ
  pub sets : ℕ
  pub counted : w.list which text lent ≡ w.calls.count sets
  pub front : list ≡ take (2 * sets) (list_bytes which text lent)

-- A set of a text's rules that is looked up in the lists of that text is answered as it is judged.
pub record Agrees {J L M A : Type 0} (w : TextTelling J L M) (t : SufficesTelling A) (text : List ℕ) (S : ℕ) (answer : A) : Type 0 where
  -- "unlisted never occurs": a core is inside, or a cut is apart.
  pub listed : ((place : ℕ) × (answer ≡ t.inside place)) ⊎ ((place : ℕ) × (answer ≡ t.apart place))
  -- A core is inside exactly when judging the set answers that it holds, whatever bytes are lent.
  pub inside : ((place : ℕ) × (answer ≡ t.inside place)) ↔ ((lent : List ℕ) → w.calls.judge text S lent ≡ w.calls.holds)
  -- A cut is apart exactly when judging the set answers that it is broken, where bytes for 128 states are lent: no trace has more.
  pub apart : ((place : ℕ) × (answer ≡ t.apart place))
      ↔ ((lent : List ℕ) → 128 ≤ length lent → (n : ℕ) × (n ≤ 128) × (w.calls.judge text S lent ≡ w.broken n))

-- ---- all of it

pub record QuickAnswer : Type 0 where
  -- For any set and any two lists: what is said is there.
  pub said : (S : ℕ) (cores cuts : List ℕ) → SaidOf by_answer S cores cuts (suffices_answer S cores cuts)
  pub said_to_hosts : (S : ℕ) (cores cuts : List ℕ) → SaidOf by_hosts S cores cuts (host_said (suffices_answer S cores cuts))
  pub witnessed : (S : ℕ) (cores cuts : List ℕ) → Witnessed S cores cuts
  -- For an accepted text, a set of its rules, and its two lists as the calls wrote them: the answer is that of judging the set.
  pub agrees : (text : List ℕ) → text_outcome text ≡ Accepted → (S : ℕ) → S < 2 ^ rules_in text → (cores cuts : List ℕ)
      → WroteList text_by_answers Cores text cores → WroteList text_by_answers Cuts text cuts
      → Agrees text_by_answers by_answer text S (suffices_answer S cores cuts)
  pub agrees_for_hosts : (text : List ℕ) → text_outcome text ≡ Accepted → (S : ℕ) → S < 2 ^ rules_in text → (cores cuts : List ℕ)
      → WroteList text_by_hosts Cores text cores → WroteList text_by_hosts Cuts text cuts
      → Agrees text_by_hosts by_hosts text S (host_said (suffices_answer S cores cuts))
