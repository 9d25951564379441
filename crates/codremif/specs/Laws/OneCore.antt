-- What `OneCore` says is true of every accepted text. From what is proved of any judgement (`Rattle.sets.proofs.Laws.OneCore`), from the laws of the answer,
-- and from where the sets of a list stand in its bytes (`lookup`). Assumes nothing.
use Rattle.std.specs.Prelude.{ℕ, ◌+◌, ◌^◌, ◌<◌, ◌≡◌, Bool, false, List, Some, None}
use Rattle.std.proofs.Math.Path.{refl, sym, ap}
use Rattle.std.proofs.Common.{◌∙◌, arith}
use Rattle.std.proofs.Math.Pow.{ones_lt}
use Rattle.sets.specs.declared.one_core.OneCore.{OneCore}
use Rattle.sets.specs.Bit.{full}
use Rattle.sets.specs.Cores.{Core}
use Rattle.sets.specs.Lists.{bytes_of, cores_of}
use Rattle.sets.specs.Demand3.{Among}
use Rattle.sets.specs.Orders.{IsOrder}
use Rattle.sets.specs.OneCore.{one_core_of}
use Rattle.sets.specs.Laws.Cores.{false_if}
use Rattle.sets.specs.Laws.Listed.{cores_of_lists}
use Rattle.sets.specs.Laws.Orders.{outside_first_lem, outside_first_last}
use Rattle.sets.proofs.Laws.OneCore.{one_core_held, one_core_found, one_core_broken}
use Rattle.refusals.specs.Answers.{Accepted, Given}
use Rattle.lookup.specs.Laws.Lists.{stands, is_listed, core_small}
use Rattle.sorting.specs.declared.which.WhichList.TheVariants.{Cores}
use Rattle.sorting.specs.Which as Which
use Rattle.calls.specs.declared.verdict.Verdict.TheVariants.{Broken}
use Rattle.calls.specs.Answers.{rules_in, judge_in, list_in, text_outcome, judge_answer}
use Rattle.calls.proofs.Laws.Answers.{rules_most}
use Rattle.preferences.specs.Answer.{one_core_in, one_core_answer}
use Rattle.preferences.proofs.Laws.Answer.{one_core_given}
use Rattle.packing.specs.Packing.{counted, parts_by, found_parts, core_parts, one_core_parts, packed}
use Rattle.codremif.specs.Suffices.{TextTelling, text_by_answers, text_by_hosts}
use Rattle.codremif.specs.OneCore.{OneCoreTelling, one_core_by_answers, one_core_by_hosts, StandsIn, InMyOrder}
use Rattle.codremif.specs.Laws.Demand3.{monotone_in, by_call}
use Rattle.codremif.specs.Laws.Telling.{Tells, answers_tell, hosts_tell}

-- ---- how the call tells what it found

record TellsOneCore {A : Type 0} (t : OneCoreTelling A) : Type 0 where
  core : (text order : List ℕ) (C n : ℕ) → one_core_answer text order ≡ Given (record { core = Some C; judgements = n }) → t.answer text order ≡ t.core C n
  no_core : (text order : List ℕ) (n : ℕ) → one_core_answer text order ≡ Given (record { core = None; judgements = n }) → t.answer text order ≡ t.no_core n

answers_tell_core : TellsOneCore one_core_by_answers
unfolding one_core_by_answers
answers_tell_core = record { core = λ text order C n e. e; no_core = λ text order n e. e }

hosts_tell_core : TellsOneCore one_core_by_hosts
unfolding one_core_by_hosts packed one_core_parts parts_by found_parts core_parts counted
hosts_tell_core = record {
  core = λ text order C n e. ap (λ a. packed (one_core_parts a)) e ∙ omega arith;
  no_core = λ text order n e. ap (λ a. packed (one_core_parts a)) e ∙ omega arith;
}

-- ---- a text

module _ (text : List ℕ) (model : text_outcome text ≡ Accepted) where
  abbrev R : ℕ
  R = rules_in text

  abbrev h : ℕ → Bool
  h = judge_in text

  found_is : (order : List ℕ) → IsOrder R order → {c : OneCore} → one_core_of R h order ≡ c → one_core_answer text order ≡ Given c
  unfolding one_core_in
  found_is order o e = sym (one_core_given text order model o) ∙ ap Given e

  no_core_is : (order : List ℕ) → IsOrder R order → h (full R) ≡ false → one_core_answer text order ≡ Given (record { core = None; judgements = 1 })
  no_core_is order o e = found_is order o (one_core_broken R h e order)

  -- The cores of the list are those that stand in its bytes.
  in_list : (C : ℕ) → C < 2 ^ R → Core h C → StandsIn C (bytes_of (list_in Cores text))
  unfolding list_in Which.listed
  in_list C l core =
      stands (λ S. S ≡ C) (cores_of R h) (core_small R h (rules_most text)) C
      ((cores_of_lists R h).each C (record { rules = l; itself = core })) refl

  from_list : (C : ℕ) → StandsIn C (bytes_of (list_in Cores text)) → Among R (Core h) C
  unfolding list_in Which.listed
  from_list C s =
      let c = is_listed (λ S. S ≡ C) (cores_of R h) (core_small R h (rules_most text)) s.0 s.1 in
      rw c.2 at ((cores_of_lists R h).only c.0 c.1)

  in_my_order : {J L M A : Type 0} (w : TextTelling J L M) → Tells w → (t : OneCoreTelling A) → TellsOneCore t → InMyOrder w t text
  in_my_order w tells t told = record {
    every_order = λ lent e order o.
        let held = ((tells.judges text model).by_call (full R) (ones_lt R) lent).1 e in
        let c = one_core_held R h (monotone_in text) held order o in
        (c.0, told.core text order c.0 (R + 1) (found_is order o c.3), λ list r. rw (tells.wrote text model Cores list r) (in_list c.0 c.1 c.2));
    some_order = λ list r C s order o last.
        let among = from_list C (rw (tells.wrote text model Cores list r) at s) in
        told.core text order C (R + 1) (found_is order o (one_core_found R h (monotone_in text) C among.rules among.itself order o last));
    its_order = λ C. (outside_first_lem R C, outside_first_last R C);
    full_broken = λ lent n few e order o. told.no_core text order 1 (no_core_is order o (not_held lent n ((tells.broken text (full R) lent n few).0 e)));
  }
    where
      not_held : (lent : List ℕ) (n : ℕ) → judge_answer text (full R) lent ≡ Given (Broken n) → h (full R) ≡ false
      not_held lent n e =
          false_if (h (full R))
          (λ t. let q = sym ((by_call text model (full R) (ones_lt R) lent).0 t) ∙ e in cc)

  -- The call in Rattle, and the exported one.
  pub calls_in_order : InMyOrder text_by_answers one_core_by_answers text
  calls_in_order = in_my_order text_by_answers answers_tell one_core_by_answers answers_tell_core

  pub hosts_in_order : InMyOrder text_by_hosts one_core_by_hosts text
  hosts_in_order = in_my_order text_by_hosts hosts_tell one_core_by_hosts hosts_tell_core
