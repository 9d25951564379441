-- What finding the lists and the kinds of rules of a text that is read gives is what the calls answer and write.
-- From the laws of the answers.
use Prim.Native.Nat.{ℕ, ◌*◌}
use mathlib.Core.Path.{◌≡◌, refl, sym, ap, ap₂, ◌∙◌}
use mathlib.Core.Bool.{Bool, true, false, cond}
use mathlib.Core.List.{List}
use borrow.Author.Tests.{ltb-true, ltb-false}
use lib.Dec.{ltb}
use lib.ListN.{length}
use Rattle.refusals.specs.declared.refusal.Reason.TheVariants.{BytesFewer}
use Rattle.refusals.specs.Answers.{Answer, Given, Refused, RefusedBy, answer_of}
use Rattle.semantics.specs.declared.model_text.ModelText.{ModelText}
use Rattle.semantics.specs.ByText.{described_by}
use Rattle.semantics.specs.Meaning.{judge}
use Rattle.sorting.specs.declared.which.WhichList.{WhichList}
use Rattle.sorting.specs.Which.{listed, of_kind}
use Rattle.sets.specs.Lists.{bytes_of, overwritten, must_of}
use Rattle.sorting.specs.declared.kinds.Kind.{Kind}
use Rattle.sorting.specs.declared.kinds.Kind.TheVariants.{Must, May, Irrelevant}
use Rattle.sorting.specs.declared.kinds.Kinds.{Kinds}
use Rattle.sorting.specs.Kinds.{kinds_of}
use Rattle.std.specs.Prelude.{Option, Some, None}
use Rattle.std.specs.Option.{ok_or}
use Rattle.finding.specs.Lists.{listed_answer, listed_bytes}
use Rattle.calls.specs.Answers.{text_outcome, judge_in, list_in, kind_in, list_answer, list_bytes, kind_answer}
use Rattle.calls.specs.AsRead.{IsModelOf, of_listed}
use Rattle.calls.proofs.Laws.Answers.{text_model, rules_read_lem, given_refused, after_refused, list_numbers, list_enough}
use Rattle.calls.proofs.Laws.Answers as Law

-- what a call gives for a list
abbrev pub Lists : WhichList → List ℕ → List ℕ → Answer ℕ → List ℕ → Type 0
Lists which text lent answer bytes = (answer ≡ list_answer which text lent) × (bytes ≡ list_bytes which text lent)

module _ {text : List ℕ} {m : ModelText} (r : IsModelOf text m) where
  pub list_told : (which : WhichList) → listed which m.model.rules (judge (described_by m)) ≡ list_in which text
  unfolding list_in judge_in
  list_told which = ap₂ (λ (R : ℕ) D. listed which R (judge D)) (rules_read_lem r.read) (text_model r)

  pub kind_told : (kind : Kind) → of_kind kind m.model.rules (judge (described_by m)) ≡ kind_in kind text
  unfolding kind_in judge_in
  kind_told kind = ap₂ (λ (R : ℕ) D. of_kind kind R (judge D)) (rules_read_lem r.read) (text_model r)

  list_given : (which : WhichList) (lent : List ℕ)
      → Lists which text lent (of_listed (listed_answer (list_in which text) lent)) (listed_bytes (list_in which text) lent)
  unfolding listed_answer listed_bytes of_listed list_answer list_bytes
  list_given which lent = go (ltb (length lent) (2 * length (list_in which text))) refl
    where
      go : (b : Bool) → ltb (length lent) (2 * length (list_in which text)) ≡ b
          → Lists which text lent (of_listed (cond b None (Some (length (list_in which text))))) (cond b lent (overwritten (bytes_of (list_in which text)) lent))
      go true e =
          let short = (list_numbers which text lent).by_length r.read.outcome (ltb-true _ _ e) in
          (sym (given_refused _ short), sym (after_refused _ _ short))
      go false e =
          let g = list_enough text r.read.outcome which lent (ltb-false _ _ e) in
          (sym g.says, sym g.writes)

  pub list_found : (which : WhichList) (lent : List ℕ) {l : Option ℕ} {bytes : List ℕ} {answer : Answer ℕ} → answer ≡ of_listed l
      → (l ≡ listed_answer (listed which m.model.rules (judge (described_by m))) lent) × (bytes ≡ listed_bytes (listed which m.model.rules (judge (described_by m))) lent)
      → Lists which text lent answer bytes
  list_found which lent told found =
      let g = list_given which lent in (
        told ∙ ap of_listed (found.0 ∙ ap (λ l. listed_answer l lent) (list_told which)) ∙ g.0,
        found.1 ∙ ap (λ l. listed_bytes l lent) (list_told which) ∙ g.1,
      )

  -- MUST, and either part of the kinds, are what the call gives
  pub must_given : (S : ℕ) → S ≡ must_of m.model.rules (judge (described_by m)) → Given S ≡ kind_answer Must text
  unfolding of_kind
  must_given S e = ap Given (e ∙ kind_told Must) ∙ sym (Law.kind_given text r.read.outcome Must)

  pub may_given : (k : Kinds) → k ≡ kinds_of m.model.rules (judge (described_by m)) → Given k.may ≡ kind_answer May text
  unfolding kinds_of of_kind
  may_given k e = ap Given (ap (λ x. x.may) e ∙ kind_told May) ∙ sym (Law.kind_given text r.read.outcome May)

  pub irrelevant_given : (k : Kinds) → k ≡ kinds_of m.model.rules (judge (described_by m)) → Given k.irrelevant ≡ kind_answer Irrelevant text
  unfolding kinds_of of_kind
  irrelevant_given k e = ap Given (ap (λ x. x.irrelevant) e ∙ kind_told Irrelevant) ∙ sym (Law.kind_given text r.read.outcome Irrelevant)

-- a text that is refused
pub list_by_text : (which : WhichList) (text lent : List ℕ) {number line : ℕ} → text_outcome text ≡ Refused number line → Lists which text lent (RefusedBy number line) lent
unfolding list_answer list_bytes
list_by_text which text lent e =
    let o = (list_numbers which text lent).by_text _ _ e in
    (sym (given_refused _ o), sym (after_refused _ _ o))

pub kind_by_text : (kind : Kind) (text : List ℕ) {number line : ℕ} → text_outcome text ≡ Refused number line → RefusedBy number line ≡ kind_answer kind text
unfolding kind_answer
kind_by_text kind text e = sym (given_refused _ e)

pub ruleset kinds_given = (must_given, may_given, irrelevant_given, kind_by_text)

-- that a list does not fit is told by number 11
pub told_so : (found : Option ℕ) → answer_of (ok_or found (record { reason = BytesFewer; line = 0 })) ≡ of_listed found
unfolding of_listed
told_so None = refl
told_so (Some n) = refl
