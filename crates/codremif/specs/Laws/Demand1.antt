-- Demand 1 is true of every call: it is refused by the first fitting number and its line, every other part of the answer is then 0, and no lent
-- byte changes; where no number fits it is accepted. From the theorem about reading (`Rattle.models.proofs.Refused`) and the laws of the answers.
use Rattle.packing.specs.declared.parts.Parts.{Parts}
use Rattle.std.specs.Prelude.{ℕ, ◌*◌, ◌^◌, ◌≤◌, ◌<◌, ◌≡◌, ◌↔◌, ◌⊎◌, Bool, get_or}
use Rattle.std.proofs.Math.Path.{refl, ap, subst}
use Rattle.std.proofs.Common.{sym, ap₂, ◌∙◌, subst₂, inl, inr, true≢false, arith}
use Rattle.std.proofs.Math.Bool.{true, false}
use mathlib.Core.List.{List, []}
use Rattle.std.proofs.Math.Decide.{dec_lt}
use Rattle.std.proofs.Math.ListN.{length}
use Rattle.sets.specs.Lists.{bytes_of}
use Rattle.sets.specs.Orders.{IsOrder}
use Rattle.sets.specs.Laws.Orders.{order_or_not}
use Rattle.refusals.specs.Answers.{Accepted, Outcome, Refused, RefusedBy, Answer}
use Rattle.models.specs.Refusals.{FitsAt, line_missing, count_wrong, name_improper, name_taken, length_wrong, byte_other, letter_beyond, letter_capital, not_one, bytes_follow, First}
use Rattle.models.proofs.Laws.Refusals.{RightOutcome, none_fits, first_fits, right_outcome}
use Rattle.models.specs.Written.{model_in}
use Rattle.systems.specs.System.{System, Trace}
use Rattle.systems.specs.Verdict.{holds, trace_of}
use Rattle.systems.specs.Judged.{judged}
use Rattle.logs.specs.Log.{IsLog}
use Rattle.logs.proofs.Laws.Log.{log_or_not}
use Rattle.semantics.specs.Meaning.{init_met}
use Rattle.sorting.specs.declared.which.WhichList.{WhichList}
use Rattle.calls.specs.Answers.{rules_in, states_in, system_in, trace_in, marks_in, list_in, text_outcome, asked_outcome, judge_outcome, reached_outcome, list_outcome, given, after, judge_answer, judge_bytes, reached_answer, reached_bytes, list_answer, list_bytes, kind_answer}
use Rattle.preferences.specs.Answer.{one_core_outcome, one_core_answer}
use Rattle.preferences.proofs.Laws.Answer.{OneCoreNumbers, one_core_numbers}
use Rattle.blaming.specs.Answer.{blame_outcome, blame_answer}
use Rattle.blaming.proofs.Laws.Answer.{BlameNumbers, blame_numbers}
use Rattle.packing.specs.Packing.{refused, judge_parts, reached_parts, list_parts, set_parts, one_core_parts, blame_parts, breach_number, packed}
use Rattle.codremif.specs.Demand1.{CallFits, text_fits, own_fits, AskedOwn, set_beyond, bytes_fewer, TraceLonger, JudgeFits, ReachedFits, ListOwn, list_longer, ListFits, OneCoreOwn, no_order, OneCoreFits, BlameOwn, no_log, init_unmet, BlameFits, FirstOf, Refusals, Demand1, HostRefusals, HostDemand1}
use Rattle.calls.proofs.Laws.Answers.{AskedNumbers, asked_numbers, ListNumbers, list_numbers, given_refused, given_accepted, refusal_given, after_refused, length_marks}
use Rattle.codremif.specs.Laws.Host.{HostReads, judge_reads, reached_reads, list_reads, kind_reads, one_core_reads, blame_reads}

-- ---- the numbers of a text are 1 to 9

text_most : {text : List ℕ} {number line : ℕ} → FitsAt text number line → number ≤ 9
text_most (line_missing d n) = omega arith
text_most (count_wrong c v n) = omega arith
text_most (name_improper r v n) = omega arith
text_most (name_taken l d e) = omega arith
text_most (length_wrong e n) = omega arith
text_most (byte_other e m n) = omega arith
text_most (letter_beyond e n m b) = omega arith
text_most (letter_capital e m b) = omega arith
text_most (not_one e n) = omega arith
text_most (bytes_follow r n) = omega arith

-- ---- the outcome of a call is right

-- It is accepted and no number fits, or it is refused by the first that fits.
data Right (Fits : ℕ → ℕ → Type 0) : Outcome → Type 0 where
  fits_none : ((number line : ℕ) → ¬ Fits number line) → Right Fits Accepted
  fits_first : {number line : ℕ} → FirstOf Fits number line → Right Fits (Refused number line)

-- Two that are first are the same, where a number above 9 has line 0.
one_first : {Fits : ℕ → ℕ → Type 0} → ((number line : ℕ) → Fits number line → 9 < number → line ≡ 0)
    → {n l m k : ℕ} → FirstOf Fits n l → FirstOf Fits m k → (n ≡ m) × (l ≡ k)
one_first zero-line {n} {l} {m} {k} f g = go (dec_lt 9 n) (dec_lt 9 m)
  where
    both : n ≤ 9 → m ≤ 9 → Dec (l < k) → Dec (k < l) → Dec (n < m) → Dec (m < n) → (n ≡ m) × (l ≡ k)
    both a b (yes h) _ _ _ = absurd (g.none n l (inr (inr (a, (b, inl h)))) f.fits)
    both a b (no h) (yes i) _ _ = absurd (f.none m k (inr (inr (b, (a, inl i)))) g.fits)
    both a b (no h) (no i) (yes j) _ = absurd (g.none n l (inr (inr (a, (b, inr (omega arith, j))))) f.fits)
    both a b (no h) (no i) (no j) (yes o) = absurd (f.none m k (inr (inr (b, (a, inr (omega arith, o))))) g.fits)
    both a b (no h) (no i) (no j) (no o) = omega arith

    above : 9 < n → 9 < m → Dec (n < m) → Dec (m < n) → (n ≡ m) × (l ≡ k)
    above a b (yes h) _ = absurd (g.none n l (inr (inl (a, h))) f.fits)
    above a b (no h) (yes i) = absurd (f.none m k (inr (inl (b, i))) g.fits)
    above a b (no h) (no i) = (omega arith, zero-line n l f.fits a ∙ sym (zero-line m k g.fits b))

    go : Dec (9 < n) → Dec (9 < m) → (n ≡ m) × (l ≡ k)
    go (yes a) (yes b) = above a b (dec_lt n m) (dec_lt m n)
    go (yes a) (no b) = absurd (f.none m k (inl (omega arith, a)) g.fits)
    go (no a) (yes b) = absurd (g.none n l (inl (omega arith, b)) f.fits)
    go (no a) (no b) = both (omega arith) (omega arith) (dec_lt l k) (dec_lt k l) (dec_lt n m) (dec_lt m n)

-- A call refused by the text's first number is refused by its own first number, where its other numbers are above 9.
text_first : {text : List ℕ} (Fits : ℕ → ℕ → Type 0) → ((number line : ℕ) → FitsAt text number line → Fits number line)
    → ((number line : ℕ) → number ≤ 9 → Fits number line → FitsAt text number line)
    → {number line : ℕ} → First text number line → FirstOf Fits number line
text_first {text} Fits into out {number} {line} f = record { fits = into number line f.fits; none = earlier }
  where
    earlier : (n l : ℕ) → ((n ≤ 9) × (9 < number)) ⊎ (((9 < n) × (n < number)) ⊎ ((n ≤ 9) × ((number ≤ 9) × ((l < line) ⊎ ((l ≡ line) × (n < number)))))) → ¬ Fits n l
    earlier n l (inl h) g = omega (arith, h.1, text_most f.fits)
    earlier n l (inr (inl h)) g = omega (arith, h.0, h.1, text_most f.fits)
    earlier n l (inr (inr h)) g = f.none n l h.1.1 (out n l h.0 g)

-- A number above 9 that fits is first where no smaller one fits.
least_first : (Fits : ℕ → ℕ → Type 0) {number line : ℕ} → 9 < number → Fits number line → ((n l : ℕ) → Fits n l → number ≤ n) → FirstOf Fits number line
least_first Fits {number} {line} above f least = record { fits = f; none = earlier }
  where
    earlier : (n l : ℕ) → ((n ≤ 9) × (9 < number)) ⊎ (((9 < n) × (n < number)) ⊎ ((n ≤ 9) × ((number ≤ 9) × ((l < line) ⊎ ((l ≡ line) × (n < number)))))) → ¬ Fits n l
    earlier n l (inl h) g = omega (arith, h.0, least n l g)
    earlier n l (inr (inl h)) g = omega (arith, h.1, least n l g)
    earlier n l (inr (inr h)) g = omega (arith, h.1.0)

-- ---- a call that adds numbers of its own to those of the text

-- None of its own numbers fits, or this is the first that does.
data OwnRight (Own : ℕ → Type 0) : Outcome → Type 0 where
  own_none : ((n : ℕ) → ¬ Own n) → OwnRight Own Accepted
  own_first : {n : ℕ} → Own n → ((m : ℕ) → Own m → n ≤ m) → OwnRight Own (Refused n 0)

call_zero : (text : List ℕ) (Own : ℕ → Type 0) (number line : ℕ) → CallFits text Own number line → 9 < number → line ≡ 0
call_zero text Own number line (text_fits f) h = absurd (omega (arith, text_most f))
call_zero text Own number line (own_fits g) h = refl

-- Its outcome is right where the text's number comes first, and where the text is accepted the first of its own; these are above 9.
module _ (text : List ℕ) (Own : ℕ → Type 0) (above : (n : ℕ) → Own n → 9 < n) {o : Outcome}
    (by_text : (number line : ℕ) → text_outcome text ≡ Refused number line → o ≡ Refused number line) (byOwn : text_outcome text ≡ Accepted → OwnRight Own o) where
  call_out : (number line : ℕ) → number ≤ 9 → CallFits text Own number line → FitsAt text number line
  call_out number line h (text_fits f) = f
  call_out number line h (own_fits g) = absurd (omega (arith, above number g))

  by_own : ((number line : ℕ) → ¬ FitsAt text number line) → {p : Outcome} → OwnRight Own p → Right (CallFits text Own) p
  by_own no_text (own_none none) = fits_none only
    where
      only : (n l : ℕ) → ¬ CallFits text Own n l
      only n l (text_fits f) = no_text n l f
      only n l (own_fits g) = none n g
  by_own no_text (own_first {n = own} g first) = fits_first (least_first (CallFits text Own) (above own g) (own_fits g) least)
    where
      least : (n l : ℕ) → CallFits text Own n l → own ≤ n
      least n l (text_fits f) = absurd (no_text n l f)
      least n l (own_fits h) = first n h

  call_right : Right (CallFits text Own) o
  unfolding text_outcome
  call_right = go refl (right_outcome text)
    where
      go : {t : Outcome} → text_outcome text ≡ t → RightOutcome text t → Right (CallFits text Own) o
      go e (none_fits n) = by_own n (byOwn e)
      go e (first_fits f) = subst (Right _) (sym (by_text _ _ e)) (fits_first (text_first (CallFits text Own) (λ n l g. text_fits g) call_out f))

-- Where one of its own numbers is told, or none.
own_said : {Own : ℕ → Type 0} {o p : Outcome} → o ≡ p → OwnRight Own p → OwnRight Own o
own_said {Own} e r = subst (OwnRight Own) (sym e) r

-- ---- a call that is handed a set

module _ (text : List ℕ) (S : ℕ) (TooFew : Type 0) where
  asked_above : (n : ℕ) → AskedOwn text S TooFew n → 9 < n
  asked_above n (set_beyond h) = omega arith
  asked_above n (bytes_fewer h) = omega arith

  from_ten : (n : ℕ) → AskedOwn text S TooFew n → 10 ≤ n
  from_ten n h = omega (arith, asked_above n h)

  from_eleven : S < 2 ^ rules_in text → (n : ℕ) → AskedOwn text S TooFew n → 11 ≤ n
  from_eleven h n (set_beyond k) = absurd (omega arith)
  from_eleven h n (bytes_fewer k) = omega arith

  asked_none : S < 2 ^ rules_in text → ¬ TooFew → (n : ℕ) → ¬ AskedOwn text S TooFew n
  asked_none h enough n (set_beyond k) = omega arith
  asked_none h enough n (bytes_fewer k) = enough k

  -- It writes these new bytes.
  asked_right : (new lent : List ℕ) → TooFew ↔ (length lent < length new) → Right (CallFits text (AskedOwn text S TooFew)) (asked_outcome text S new lent)
  asked_right new lent too_few = call_right text (AskedOwn text S TooFew) asked_above numbers.by_text (λ e. by_set e (dec_lt S (2 ^ rules_in text)))
    where
      -- which number it is, by cases: these say in which order 1 to 9, 10 and 11 are tried
      numbers : AskedNumbers text S new lent (asked_outcome text S new lent)
      numbers = asked_numbers text S new lent

      by_length : text_outcome text ≡ Accepted → S < 2 ^ rules_in text → Dec (length lent < length new) → OwnRight (AskedOwn text S TooFew) (asked_outcome text S new lent)
      by_length e h (yes short) = own_said (numbers.by_length e h short) (own_first (bytes_fewer (too_few.1 short)) (from_eleven h))
      by_length e h (no b) = own_said (numbers.by_none e h (omega arith)) (own_none (asked_none h (λ t. b (too_few.0 t))))

      by_set : text_outcome text ≡ Accepted → Dec (S < 2 ^ rules_in text) → OwnRight (AskedOwn text S TooFew) (asked_outcome text S new lent)
      by_set e (yes h) = by_length e h (dec_lt (length lent) (length new))
      by_set e (no b) = let h : 2 ^ rules_in text ≤ S = omega arith in own_said (numbers.by_set e h) (own_first (set_beyond h) from_ten)

module _ (text : List ℕ) (S : ℕ) (lent : List ℕ) where
  M : System
  M = system_in text S

  -- A set whose trace is longer than the lent bytes is broken.
  its_trace : length lent < length (trace_in text S) → Trace M (trace_in text S)
  unfolding M trace_in
  its_trace l = go (holds M) refl
    where
      go : (b : Bool) → holds M ≡ b → Trace M (trace_of M)
      go true e = absurd (omega (arith, ap length ((judged M).held e)))
      go false e = (judged M).broken e

  trace_longer : TraceLonger text S lent ↔ (length lent < length (trace_in text S))
  unfolding M trace_in
  trace_longer = (
    λ t. omega (arith, t.longer, ap length ((judged M).only t.run t.trace)),
    λ l. record { run = trace_in text S; trace = its_trace l; longer = l },
  )

  judge_right : Right (JudgeFits text S lent) (judge_outcome text S lent)
  unfolding judge_outcome
  judge_right = asked_right text S (TraceLonger text S lent) (trace_in text S) lent trace_longer

  reached_right : Right (ReachedFits text S lent) (reached_outcome text S lent)
  unfolding reached_outcome
  reached_right =
      asked_right text S (length lent < states_in text) (marks_in text S) lent
      (λ l. omega (arith, l, length_marks text S), λ l. omega (arith, l, length_marks text S))

-- ---- listing sets, and finding one core

module _ (which : WhichList) (text lent : List ℕ) where
  list_above : (n : ℕ) → ListOwn which text lent n → 9 < n
  list_above n (list_longer h) = omega arith

  list_least : (n : ℕ) → ListOwn which text lent n → 11 ≤ n
  list_least n (list_longer h) = omega arith

  list_none : 2 * length (list_in which text) ≤ length lent → (n : ℕ) → ¬ ListOwn which text lent n
  list_none enough n (list_longer h) = omega arith

  list_right : Right (ListFits which text lent) (list_outcome which text lent)
  list_right = call_right text (ListOwn which text lent) list_above numbers.by_text (λ e. go e (dec_lt (length lent) (2 * length (list_in which text))))
    where
      numbers : ListNumbers text (list_in which text) lent (list_outcome which text lent)
      numbers = list_numbers which text lent

      go : text_outcome text ≡ Accepted → Dec (length lent < 2 * length (list_in which text)) → OwnRight (ListOwn which text lent) (list_outcome which text lent)
      go e (yes h) = own_said (numbers.by_length e h) (own_first (list_longer h) list_least)
      go e (no b) = own_said (numbers.by_none e (omega arith)) (own_none (list_none (omega arith)))

module _ (text order : List ℕ) where
  order_above : (n : ℕ) → OneCoreOwn text order n → 9 < n
  order_above n (no_order f) = omega arith

  order_least : (n : ℕ) → OneCoreOwn text order n → 13 ≤ n
  order_least n (no_order f) = omega arith

  order_none : IsOrder (rules_in text) order → (n : ℕ) → ¬ OneCoreOwn text order n
  order_none o n (no_order f) = f o

  one_core_right : Right (OneCoreFits text order) (one_core_outcome text order)
  one_core_right = call_right text (OneCoreOwn text order) order_above numbers.by_text (λ e. go e (order_or_not (rules_in text) order))
    where
      numbers : OneCoreNumbers text order (one_core_outcome text order)
      numbers = one_core_numbers text order

      go : text_outcome text ≡ Accepted → Dec (IsOrder (rules_in text) order) → OwnRight (OneCoreOwn text order) (one_core_outcome text order)
      go e (yes o) = own_said (numbers.by_none e o) (own_none (order_none o))
      go e (no f) = own_said (numbers.by_order e f) (own_first (no_order f) order_least)

-- ---- blame from a log

module _ (text log : List ℕ) where
  log_above : (n : ℕ) → BlameOwn text log n → 9 < n
  log_above n (no_log f) = omega arith
  log_above n (init_unmet i) = omega arith

  from_fourteen : (n : ℕ) → BlameOwn text log n → 14 ≤ n
  from_fourteen n (no_log f) = omega arith
  from_fourteen n (init_unmet i) = omega arith

  from_fifteen : IsLog (states_in text) log → (n : ℕ) → BlameOwn text log n → 15 ≤ n
  from_fifteen l n (no_log f) = absurd (f l)
  from_fifteen l n (init_unmet i) = omega arith

  log_none : IsLog (states_in text) log → init_met (model_in text) (get_or log 0 0) ≡ true → (n : ℕ) → ¬ BlameOwn text log n
  log_none l met n (no_log f) = f l
  log_none l met n (init_unmet i) = true≢false (sym met ∙ i)

  blame_right : Right (BlameFits text log) (blame_outcome text log)
  blame_right = call_right text (BlameOwn text log) log_above numbers.by_text (λ e. by_log e (log_or_not (states_in text) log))
    where
      numbers : BlameNumbers text log (blame_outcome text log)
      numbers = blame_numbers text log

      by-init : text_outcome text ≡ Accepted → IsLog (states_in text) log → (b : Bool) → init_met (model_in text) (get_or log 0 0) ≡ b → OwnRight (BlameOwn text log) (blame_outcome text log)
      by-init e l true met = own_said (numbers.by_none e l met) (own_none (log_none l met))
      by-init e l false met = own_said (numbers.by_init e l met) (own_first (init_unmet met) (from_fifteen l))

      by_log : text_outcome text ≡ Accepted → Dec (IsLog (states_in text) log) → OwnRight (BlameOwn text log) (blame_outcome text log)
      by_log e (yes l) = by-init e l _ refl
      by_log e (no f) = own_said (numbers.by_log e f) (own_first (no_log f) from_fourteen)

-- ---- giving MUST, MAY or the irrelevant rules

text_zero : (text : List ℕ) (number line : ℕ) → FitsAt text number line → 9 < number → line ≡ 0
text_zero text number line f h = absurd (omega (arith, text_most f))

text_right : (text : List ℕ) → Right (FitsAt text) (text_outcome text)
unfolding text_outcome
text_right text = go (right_outcome text)
  where
    go : {o : Outcome} → RightOutcome text o → Right (FitsAt text) o
    go (none_fits n) = fits_none n
    go (first_fits f) = fits_first (text_first (FitsAt text) (λ n l g. g) (λ n l h g. g) f)

-- ---- a call whose outcome is right

module _ {Fits : ℕ → ℕ → Type 0} (zero-line : (number line : ℕ) → Fits number line → 9 < number → line ≡ 0) where
  refused_first : {o : Outcome} → Right Fits o → (number line : ℕ) → (o ≡ Refused number line) ↔ FirstOf Fits number line
  refused_first (fits_none n) number line = (λ q. let z : ◌≡◌ {A = ℕ} 0 1 = cc in absurd (omega arith), λ f. absurd (n number line f.fits))
  refused_first (fits_first {number = m} {line = k} g) number line = (
    λ q. let a : m ≡ number = cc in let b : k ≡ line = cc in subst₂ (FirstOf Fits) a b g,
    λ f. let e = one_first zero-line g f in ap₂ Refused e.0 e.1,
  )

  accepted_none : {o : Outcome} → Right Fits o → (o ≡ Accepted) ↔ ((number line : ℕ) → ¬ Fits number line)
  accepted_none (fits_none n) = (λ q. n, λ f. refl)
  accepted_none (fits_first {number = m} {line = k} g) = (λ q. let z : ◌≡◌ {A = ℕ} 0 1 = cc in absurd (omega arith), λ f. absurd (f m k g.fits))

  -- what such a call gives, whose parts of a refusal are its number and line
  module _ {A : Type 0} (parts : Answer A → Parts) (told : (number line : ℕ) → parts (RefusedBy number line) ≡ refused number line) (a : A) {o : Outcome} (r : Right Fits o) where
    refusals : (new lent : List ℕ) → Refusals Fits parts lent (given o a) (after o new lent)
    refusals new lent = record {
      first = λ number line. (
        λ q. (refused_first r number line).0 (refusal_given a o q),
        λ f. given_refused a ((refused_first r number line).1 f),
      );
      accepted = (
        λ none. (accepted_none r).0 (never none),
        λ f number line q. let z = sym (given_accepted a ((accepted_none r).1 f)) ∙ q in cc,
      );
      zero = λ number line q. ap parts q ∙ told number line;
      kept = λ number line q. after_refused new lent (refusal_given a o q);
    }
      where
        never : ((number line : ℕ) → ¬ (given o a ≡ RefusedBy number line)) → o ≡ Accepted
        never none = go o refl
          where
            go : (p : Outcome) → o ≡ p → p ≡ Accepted
            go Accepted e = refl
            go (Refused n l) e = absurd (none n l (given_refused a e))

    -- the same of the packed number, whose lowest byte is 0 exactly where the call is accepted
    host_refusals : (new lent : List ℕ) → HostReads o (parts (given o a)) → HostRefusals Fits lent (packed (parts (given o a))) (after o new lent)
    unfolding packed refused
    host_refusals new lent h = record {
      accepted = (
        λ e. (accepted_none r).0 (h.zero.0 (sym h.parts.number ∙ e)),
        λ f. h.parts.number ∙ h.zero.1 ((accepted_none r).1 f),
      );
      first = λ number line f.
          let e = ap parts (given_refused a ((refused_first r number line).1 f)) ∙ told number line in
          ap packed e ∙ omega arith;
      kept = λ number line f. after_refused new lent ((refused_first r number line).1 f);
    }

-- ---- the demand

module _ (text : List ℕ) where
  pub calls_meet_demand1 : Demand1 text
  unfolding judge_answer judge_bytes reached_answer reached_bytes list_answer list_bytes kind_answer one_core_answer blame_answer judge_parts reached_parts list_parts set_parts one_core_parts blame_parts
  calls_meet_demand1 =
      record {
        judge = λ S lent.
            refusals (call_zero text (AskedOwn text S (TraceLonger text S lent))) judge_parts (λ n l. refl) _ (judge_right text S lent) (trace_in text S) lent;
        reached = λ S lent.
            refusals (call_zero text (AskedOwn text S (length lent < states_in text))) reached_parts (λ n l. refl) _ (reached_right text S lent) (marks_in text S) lent;
        list = λ which lent.
            refusals (call_zero text (ListOwn which text lent)) list_parts (λ n l. refl) _ (list_right which text lent)
            (bytes_of (list_in which text)) lent;
        kind = λ kind.
            let r = refusals (text_zero text) set_parts (λ n l. refl) _ (text_right text) [] [] in
            record { first = r.first; accepted = r.accepted; zero = r.zero; kept = λ n l q. refl };
        one_core = λ order.
            let r = refusals (call_zero text (OneCoreOwn text order)) one_core_parts (λ n l. refl) _ (one_core_right text order) [] []
            in
            record { first = r.first; accepted = r.accepted; zero = r.zero; kept = λ n l q. refl };
        blame = λ log.
            let r = refusals (call_zero text (BlameOwn text log)) blame_parts (λ n l. refl) _ (blame_right text log) [] []
            in
            record { first = r.first; accepted = r.accepted; zero = r.zero; kept = λ n l q. refl };
      }

  pub hosts_meet_demand1 : HostDemand1 text
  unfolding judge_answer judge_bytes reached_answer reached_bytes list_answer list_bytes kind_answer one_core_answer blame_answer judge_parts reached_parts list_parts set_parts one_core_parts blame_parts breach_number
  hosts_meet_demand1 =
      record {
        judge = λ S lent.
            host_refusals (call_zero text (AskedOwn text S (TraceLonger text S lent))) judge_parts (λ n l. refl) _ (judge_right text S lent) (trace_in text S) lent
            (judge_reads text S lent);
        reached = λ S lent.
            host_refusals (call_zero text (AskedOwn text S (length lent < states_in text))) reached_parts (λ n l. refl) _ (reached_right text S lent) (marks_in text S) lent (reached_reads text S lent);
        list = λ which lent.
            host_refusals (call_zero text (ListOwn which text lent)) list_parts (λ n l. refl) _ (list_right which text lent)
            (bytes_of (list_in which text)) lent (list_reads which text lent);
        kind = λ kind.
            let r = host_refusals (text_zero text) set_parts (λ n l. refl) _ (text_right text) [] [] (kind_reads kind text)
            in
            record { accepted = r.accepted; first = r.first; kept = λ n l f. refl };
        one_core = λ order.
            let r = host_refusals (call_zero text (OneCoreOwn text order)) one_core_parts (λ n l. refl) _ (one_core_right text order) [] [] (one_core_reads text order)
            in
            record { accepted = r.accepted; first = r.first; kept = λ n l f. refl };
        blame = λ log.
            let r = host_refusals (call_zero text (BlameOwn text log)) blame_parts (λ n l. refl) _ (blame_right text log) [] [] (blame_reads text log)
            in
            record { accepted = r.accepted; first = r.first; kept = λ n l f. refl };
        breach = λ log number line f.
            ap (breach_number (length log)) (given_refused _ ((refused_first (call_zero text (BlameOwn text log)) (blame_right text log) number line).1 f));
      }
