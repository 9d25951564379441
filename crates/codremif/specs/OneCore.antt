-- What is to hold of one core by an order of the rules, for an accepted text: a named part for each sentence.
-- From document 02, "One core, in my order of preference". The theorem is in `Demands`. Assumes nothing: these are definitions.
use Rattle.std.specs.Prelude.{ℕ, ◌+◌, ◌*◌, ◌^◌, ◌≤◌, ◌≡◌, List, Some, None}
use Rattle.sets.specs.declared.one_core.OneCore.{OneCore}
use Rattle.sets.specs.Bit.{full}
use Rattle.sets.specs.Orders.{IsOrder, StandLast, outside_first}
use Rattle.lookup.specs.Search.{Stands}
use Rattle.sorting.specs.declared.which.WhichList.TheVariants.{Cores}
use Rattle.calls.specs.Answers.{rules_in}
use Rattle.refusals.specs.Answers.{Answer, Given}
use Rattle.preferences.specs.Answer.{one_core_answer}
use Rattle.packing.specs.Packing.{one_core_parts, packed}
use Rattle.codremif.specs.Suffices.{TextTelling, WroteList}

-- What the call answers to a text and an order, and how it tells a core, and that there is none, with so many judgements.
pub record OneCoreTelling (A : Type 0) : Type 0 where
  pub answer : (text order : List ℕ) → A
  pub core : (C judgements : ℕ) → A
  pub no_core : (judgements : ℕ) → A

-- The call in Rattle, and the exported one by its 64-bit number.
unfoldable pub one_core_by_answers : OneCoreTelling (Answer OneCore)
one_core_by_answers = record {
  answer = one_core_answer;
  core = λ C judgements. Given (record { core = Some C; judgements = judgements });
  no_core = λ judgements. Given (record { core = None; judgements = judgements });
}

unfoldable pub one_core_by_hosts : OneCoreTelling ℕ
one_core_by_hosts = record {
  answer = λ text order. packed (one_core_parts (one_core_answer text order));
  core = λ C judgements. 65536 * C + 2 ^ 40 + 2 ^ 41 * judgements;
  no_core = λ judgements. 2 ^ 41 * judgements;
}

-- Set C stands in the list.
abbrev pub StandsIn : ℕ → List ℕ → Type 0
StandsIn C list = (place : ℕ) × Stands (λ S. S ≡ C) list place

-- The core list is as the call for the cores wrote it, and the full set is judged by the call for that, whatever bytes are lent.
pub record InMyOrder {J L M A : Type 0} (w : TextTelling J L M) (t : OneCoreTelling A) (text : List ℕ) : Type 0 where
  -- "Where the full set holds, the found set is a core for every order": one of the core list, by R + 1 judgements.
  pub every_order : (lent : List ℕ) → w.calls.judge text (full (rules_in text)) lent ≡ w.calls.holds → (order : List ℕ) → IsOrder (rules_in text) order
      → (C : ℕ) × (t.answer text order ≡ t.core C (rules_in text + 1)) × ((list : List ℕ) → WroteList w Cores text list → StandsIn C list)
  -- "and each core is found by some order": by every one in which its rules stand behind all others,
  pub some_order : (list : List ℕ) → WroteList w Cores text list → (C : ℕ) → StandsIn C list
      → (order : List ℕ) → IsOrder (rules_in text) order → StandLast C order → t.answer text order ≡ t.core C (rules_in text + 1)
  -- and there is one: the rules outside the core first, by number, then those of the core.
  pub its_order : (C : ℕ) → IsOrder (rules_in text) (outside_first (rules_in text) C) × StandLast C (outside_first (rules_in text) C)
  -- "otherwise 1, with set 0 standing for no core": no trace has more than 128 states.
  pub full_broken : (lent : List ℕ) (n : ℕ) → n ≤ 128 → w.calls.judge text (full (rules_in text)) lent ≡ w.broken n
      → (order : List ℕ) → IsOrder (rules_in text) order → t.answer text order ≡ t.no_core 1
