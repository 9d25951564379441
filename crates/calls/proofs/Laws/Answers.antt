-- The laws of the answers: each call is refused by the first number that fits and accepted where none does, a refused call changes no lent
-- byte, and an accepted one answers and writes what the text means. From the definitions in `Answers`, case by case. Assumes nothing.
use Rattle.std.specs.Prelude.{ℕ, ◌*◌, ◌^◌, ◌≤◌, ◌<◌, refl, Bool, true, false, cond, List, length, Result, Ok, Err}
use Rattle.std.proofs.Math.Path.{◌≡◌, ap}
use Rattle.std.proofs.Common.{sym, ap₂, ◌∙◌, arith, le-leb, lt-ltb, le-ltb}
use Rattle.std.proofs.lemmas.Bool.{lt-leb}
use Rattle.sets.specs.Lists.{bytes_of, overwritten}
use Rattle.sets.specs.Laws.Lists.{length_bytes_of}
use Rattle.sets.specs.Laws.Tabulated.{length_tabulate}
use Rattle.models.specs.declared.model.Model.{Model}
use Rattle.refusals.specs.declared.refusal.Refusal.{Refusal}
use Rattle.refusals.specs.Numbers.{number_of}
use Rattle.refusals.specs.Answers.{Accepted, Given, Outcome, Refused, RefusedBy, answer_of, outcome_of}
use Rattle.models.specs.Reading.{read_model, places_of}
use Rattle.models.specs.Written.{described, model_in}
use Rattle.models.proofs.Laws.Ranges.{ranges}
use Rattle.models.proofs.Laws.Written.{described_count}
use Rattle.semantics.specs.Few.{Few}
use Rattle.semantics.specs.declared.model_text.ModelText.{ModelText}
use Rattle.semantics.specs.ByText.{described_by}
use Rattle.systems.specs.System.{System}
use Rattle.systems.specs.Verdict.{holds, trace_of}
use Rattle.sorting.specs.declared.which.WhichList.{WhichList}
use Rattle.calls.specs.declared.verdict.Verdict.TheVariants.{Holds, Broken}
use Rattle.sorting.specs.declared.kinds.Kind.{Kind}
use Rattle.calls.specs.Answers.{Gives, rules_in, states_in, system_in, trace_in, marks_in, pairs_in, list_in, kind_in, text_outcome, read_outcome, asked_outcome, judge_outcome, reached_outcome, list_outcome, given, after, verdict_of, judge_answer, judge_bytes, reached_answer, reached_bytes, list_answer, list_bytes, kind_answer}
use Rattle.calls.specs.AsRead.{IsRead, IsModelOf, places_in}

-- ---- what the reading of a text says

module _ (text : List ℕ) {r : Result Model Refusal} (said : answer_of r ≡ read_model text) where
  pub is_read : {m : Model} → r ≡ Ok m → IsRead text m
  unfolding text_outcome places_in
  is_read {m} e =
      let g : Given m ≡ read_model text = rw e at said in
      record { outcome = ap outcome_of (sym g); model = ap places_of g }

  pub is_refused : {e : Refusal} → r ≡ Err e → text_outcome text ≡ Refused (number_of e.reason) e.line
  unfolding text_outcome
  is_refused {e} q =
      let g : RefusedBy (number_of e.reason) e.line ≡ read_model text = rw q at said in
      ap outcome_of (sym g)

-- The model of a text is told by the places of its parts.
module _ {text : List ℕ} {m : Model} (r : IsRead text m) where
  pub read_model_lem : described text m ≡ model_in text
  unfolding model_in places_in
  read_model_lem = ap (described text) r.model

pub rules_told : (text : List ℕ) → rules_in text ≡ (places_in text).rules
unfolding rules_in model_in places_in
rules_told text = described_count text (places_of (read_model text))

-- Of any text N is at most 7 and R at most 16.
pub vars_most : (text : List ℕ) → (model_in text).vars ≤ 7
unfolding model_in described
vars_most text = (ranges text).vars

pub rules_most : (text : List ℕ) → rules_in text ≤ 16
unfolding places_in
rules_most text = rw (rules_told text) (ranges text).rules

module _ {text : List ℕ} {m : Model} (r : IsRead text m) where
  pub few : Few m
  unfolding places_in
  few = rw r.model (record { vars = (ranges text).vars; rules = (ranges text).rules; properties = (ranges text).properties })

  pub rules_le : m.rules ≤ 16
  rules_le = few.rules

  pub rules_read_lem : m.rules ≡ rules_in text
  rules_read_lem = ap (λ x. x.rules) r.model ∙ sym (rules_told text)

  pub states_read : 2 ^ m.vars ≡ states_in text
  unfolding states_in described
  states_read = ap (λ D. 2 ^ D.vars) (read_model_lem r)

  pub set_read : {S : ℕ} → S < 2 ^ m.rules → S < 2 ^ rules_in text
  set_read h = rw rules_read_lem at h

-- The same by the text with its model.
module _ {text : List ℕ} {m : ModelText} (r : IsModelOf text m) where
  pub text_model : described_by m ≡ model_in text
  text_model = ap (λ t. described t m.model) r.same ∙ read_model_lem r.read

-- ---- what a call gives

module _ {A : Type 0} (a : A) where
  pub given_accepted : {o : Outcome} → o ≡ Accepted → given o a ≡ Given a
  unfolding given
  given_accepted e = rw e

  pub given_refused : {o : Outcome} {number line : ℕ} → o ≡ Refused number line → given o a ≡ RefusedBy number line
  unfolding given
  given_refused e = rw e

  -- A refusal comes from the outcome, with its number and line.
  pub refusal_given : (o : Outcome) {number line : ℕ} → given o a ≡ RefusedBy number line → o ≡ Refused number line
  unfolding given
  refusal_given Accepted e = cc
  refusal_given (Refused n l) {number} {line} e =
      let p : n ≡ number = cc in
      let q : l ≡ line = cc in
      ap₂ Refused p q

-- Two answers that are given alike are the same.
pub one_given : {A : Type 0} {a b : A} → Given a ≡ Given b → a ≡ b
one_given e = cc

module _ (new lent : List ℕ) where
  pub after_accepted : {o : Outcome} → o ≡ Accepted → after o new lent ≡ overwritten new lent
  unfolding after
  after_accepted e = rw e

  pub after_refused : {o : Outcome} {number line : ℕ} → o ≡ Refused number line → after o new lent ≡ lent
  unfolding after
  after_refused e = rw e

-- ---- the first number that fits

-- The outcome of a call that is handed set S and writes new bytes: refused by the text's number, by 10, by 11, or accepted, the first of these that
-- fits. Demand 1 rests on these records for the order of the numbers.
pub record AskedNumbers (text : List ℕ) (S : ℕ) (new lent : List ℕ) (o : Outcome) : Type 0 where
  pub by_text : (number line : ℕ) → text_outcome text ≡ Refused number line → o ≡ Refused number line
  pub by_set : text_outcome text ≡ Accepted → 2 ^ rules_in text ≤ S → o ≡ Refused 10 0
  pub by_length : text_outcome text ≡ Accepted → S < 2 ^ rules_in text → length lent < length new → o ≡ Refused 11 0
  pub by_none : text_outcome text ≡ Accepted → S < 2 ^ rules_in text → length new ≤ length lent → o ≡ Accepted

-- The outcome of listing sets: refused by the text's number, by 11, or accepted.
pub record ListNumbers (text sets lent : List ℕ) (o : Outcome) : Type 0 where
  pub by_text : (number line : ℕ) → text_outcome text ≡ Refused number line → o ≡ Refused number line
  pub by_length : text_outcome text ≡ Accepted → length lent < 2 * length sets → o ≡ Refused 11 0
  pub by_none : text_outcome text ≡ Accepted → 2 * length sets ≤ length lent → o ≡ Accepted

pub asked_numbers : (text : List ℕ) (S : ℕ) (new lent : List ℕ) → AskedNumbers text S new lent (asked_outcome text S new lent)
unfolding asked_outcome read_outcome
asked_numbers text S new lent = record {
  by_text = λ number line e. rw e;
  by_set = λ e h. rw (e, le-leb (2 ^ rules_in text) S h);
  by_length = λ e h l. rw (e, lt-leb (2 ^ rules_in text) S h, lt-ltb (length lent) (length new) l);
  by_none = λ e h l. rw (e, lt-leb (2 ^ rules_in text) S h, le-ltb (length lent) (length new) l);
}

-- A text and a set of its rules are refused by the text's number, or by 10.
pub read_by_text : (text : List ℕ) (S : ℕ) {number line : ℕ} → text_outcome text ≡ Refused number line → read_outcome text S ≡ Refused number line
unfolding read_outcome
read_by_text text S e = rw e

pub read_by_set : (text : List ℕ) (S : ℕ) → text_outcome text ≡ Accepted → 2 ^ rules_in text ≤ S → read_outcome text S ≡ Refused 10 0
unfolding read_outcome
read_by_set text S e h = rw (e, le-leb (2 ^ rules_in text) S h)

-- Then a call that writes new bytes is refused so as well.
pub asked_unread : (text : List ℕ) (S : ℕ) (new lent : List ℕ) {number line : ℕ} → read_outcome text S ≡ Refused number line
    → asked_outcome text S new lent ≡ Refused number line
unfolding asked_outcome
asked_unread text S new lent e = rw e

pub judge_numbers : (text : List ℕ) (S : ℕ) (lent : List ℕ) → AskedNumbers text S (trace_in text S) lent (judge_outcome text S lent)
unfolding judge_outcome
judge_numbers text S lent = asked_numbers text S (trace_in text S) lent

pub reached_numbers : (text : List ℕ) (S : ℕ) (lent : List ℕ) → AskedNumbers text S (marks_in text S) lent (reached_outcome text S lent)
unfolding reached_outcome
reached_numbers text S lent = asked_numbers text S (marks_in text S) lent

pub list_numbers : (which : WhichList) (text lent : List ℕ) → ListNumbers text (list_in which text) lent (list_outcome which text lent)
unfolding list_outcome
list_numbers which text lent =
    let sets : List ℕ = list_in which text in
    record {
      by_text = λ number line e. rw e;
      by_length = λ e l. rw (e, lt-ltb (length lent) (length (bytes_of (list_in which text))) (omega (arith, length_bytes_of (list_in which text))));
      by_none = λ e l. rw (e, le-ltb (length lent) (length (bytes_of (list_in which text))) (omega (arith, length_bytes_of (list_in which text))));
    }

-- ---- the verdict of a system

pub verdict_held : (M : System) → holds M ≡ true → verdict_of M ≡ Holds
unfolding verdict_of
verdict_held M e = ap (λ b. cond b Holds (Broken (length (trace_of M)))) e

pub verdict_broken : (M : System) → holds M ≡ false → verdict_of M ≡ Broken (length (trace_of M))
unfolding verdict_of
verdict_broken M e = ap (λ b. cond b Holds (Broken (length (trace_of M)))) e

-- The same, taken apart.
pub held_verdict : (M : System) → verdict_of M ≡ Holds → holds M ≡ true
unfolding verdict_of
held_verdict M = go (holds M)
  where
    go : (b : Bool) → cond b Holds (Broken (length (trace_of M))) ≡ Holds → b ≡ true
    go true q = refl
    go false q = let z : ◌≡◌ {A = ℕ} 0 1 = cc in absurd (omega arith)

pub broken_verdict : (M : System) (n : ℕ) → verdict_of M ≡ Broken n → (holds M ≡ false) × (length (trace_of M) ≡ n)
unfolding verdict_of
broken_verdict M n = go (holds M)
  where
    go : (b : Bool) → cond b Holds (Broken (length (trace_of M))) ≡ Broken n → (b ≡ false) × (length (trace_of M) ≡ n)
    go true q = let z : ◌≡◌ {A = ℕ} 0 1 = cc in absurd (omega arith)
    go false q = (refl, cc)

-- ---- the marks of a search

pub length_marks : (text : List ℕ) (S : ℕ) → length (marks_in text S) ≡ states_in text
unfolding marks_in
length_marks text S = length_tabulate (states_in text) _

-- ---- an accepted call answers and writes what the text means

module _ (text : List ℕ) (model : text_outcome text ≡ Accepted) where
  pub judge_enough : (S : ℕ) (lent : List ℕ) → S < 2 ^ rules_in text → length (trace_in text S) ≤ length lent
      → Gives (verdict_of (system_in text S)) (trace_in text S) lent (judge_answer text S lent) (judge_bytes text S lent)
  unfolding judge_answer judge_bytes
  judge_enough S lent h l =
      let e = (judge_numbers text S lent).by_none model h l in
      record { says = given_accepted _ e; writes = after_accepted _ _ e }

  pub reached_enough : (S : ℕ) (lent : List ℕ) → S < 2 ^ rules_in text → states_in text ≤ length lent
      → Gives (pairs_in text S) (marks_in text S) lent (reached_answer text S lent) (reached_bytes text S lent)
  unfolding reached_answer reached_bytes
  reached_enough S lent h l =
      let e = (reached_numbers text S lent).by_none model h (omega (arith, length_marks text S)) in
      record { says = given_accepted _ e; writes = after_accepted _ _ e }

  pub list_enough : (which : WhichList) (lent : List ℕ) → 2 * length (list_in which text) ≤ length lent
      → Gives (length (list_in which text)) (bytes_of (list_in which text)) lent (list_answer which text lent) (list_bytes which text lent)
  unfolding list_answer list_bytes
  list_enough which lent l =
      let e = (list_numbers which text lent).by_none model l in
      record { says = given_accepted _ e; writes = after_accepted _ _ e }

  pub kind_given : (kind : Kind) → kind_answer kind text ≡ Given (kind_in kind text)
  unfolding kind_answer
  kind_given kind = given_accepted _ model

-- ---- a refused call changes no lent byte

module _ (text lent : List ℕ) (number line : ℕ) where
  pub judge_refused : (S : ℕ) → judge_answer text S lent ≡ RefusedBy number line → judge_bytes text S lent ≡ lent
  unfolding judge_answer judge_bytes
  judge_refused S e = after_refused _ _ (refusal_given _ (judge_outcome text S lent) e)

  pub reached_refused : (S : ℕ) → reached_answer text S lent ≡ RefusedBy number line → reached_bytes text S lent ≡ lent
  unfolding reached_answer reached_bytes
  reached_refused S e = after_refused _ _ (refusal_given _ (reached_outcome text S lent) e)

  pub list_refused : (which : WhichList) → list_answer which text lent ≡ RefusedBy number line → list_bytes which text lent ≡ lent
  unfolding list_answer list_bytes
  list_refused which e = after_refused _ _ (refusal_given _ (list_outcome which text lent) e)
