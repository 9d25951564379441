-- The laws of the answer: the call is refused by the first number that fits, and an accepted one answers what the order leaves of the model.
-- From the definitions in `Answer`, case by case. Assumes nothing.
use Rattle.std.specs.Prelude.{ℕ, ◌^◌, ◌≤◌, ◌<◌, ◌≡◌, refl, Bool, true, false, not, List, Option, Some, None, IfSome}
use Rattle.std.proofs.Math.Path.{sym}
use Rattle.std.proofs.Common.{arith, pow_mono}
use Rattle.sets.specs.Orders.{IsOrder, is_order}
use Rattle.sets.specs.OneCore.{one_core_of}
use Rattle.sets.specs.Laws.Cores.{false_if}
use Rattle.sets.specs.Laws.Orders.{is_order_iff}
use Rattle.sets.proofs.Laws.OneCore.{one_core_size}
use Rattle.refusals.specs.Answers.{Accepted, Given, Outcome, Refused, RefusedBy}
use Rattle.calls.specs.Answers.{rules_in, judge_in, ◌or_else◌, refused_if, text_outcome}
use Rattle.calls.proofs.Laws.Answers.{rules_most, given_accepted, given_refused}
use Rattle.preferences.specs.Answer.{one_core_in, order_outcome, one_core_outcome, one_core_answer}

-- The outcome of the call: refused by the text's number, by 13, or accepted, the first of these that fits. Demand 1 rests on this for the order of the
-- numbers.
pub record OneCoreNumbers (text order : List ℕ) (o : Outcome) : Type 0 where
  pub by_text : (number line : ℕ) → text_outcome text ≡ Refused number line → o ≡ Refused number line
  pub by_order : text_outcome text ≡ Accepted → ¬ IsOrder (rules_in text) order → o ≡ Refused 13 0
  pub by_none : text_outcome text ≡ Accepted → IsOrder (rules_in text) order → o ≡ Accepted

pub one_core_numbers : (text order : List ℕ) → OneCoreNumbers text order (one_core_outcome text order)
unfolding one_core_outcome
one_core_numbers text order = record {
  by_text = λ number line e. rw e;
  by_order = λ e n. rw (e, false_if (is_order (rules_in text) order) (λ t. n ((is_order_iff (rules_in text) order).0 t)));
  by_none = λ e o. rw (e, (is_order_iff (rules_in text) order).1 o);
}

-- An accepted call was handed an order.
accepted_order : (text order : List ℕ) → one_core_outcome text order ≡ Accepted → IsOrder (rules_in text) order
unfolding one_core_outcome order_outcome ◌or_else◌ refused_if
accepted_order text order e = (is_order_iff (rules_in text) order).0 (go (text_outcome text) (is_order (rules_in text) order) e)
  where
    go : (o : Outcome) (b : Bool) → (o or_else refused_if (not b) 13) ≡ Accepted → b ≡ true
    go Accepted true q = refl
    go Accepted false q = let z : ◌≡◌ {A = ℕ} 0 1 = cc in absurd (omega arith)
    go (Refused number line) b q = let z : ◌≡◌ {A = ℕ} 0 1 = cc in absurd (omega arith)

-- What it finds is a set of the text's rules, by at most 17 judgements.
pub one_core_fits : (text order : List ℕ) → one_core_outcome text order ≡ Accepted
    → IfSome (one_core_in text order).core (λ C. C < 65536) × ((one_core_in text order).judgements ≤ 17)
unfolding one_core_in
one_core_fits text order e =
    let size = one_core_size (rules_in text) (judge_in text) order in
    (small (one_core_of (rules_in text) (judge_in text) order).core size.0, omega (arith, size.1, (accepted_order text order e).size, rules_most text))
  where
    small : (c : Option ℕ) → IfSome c (λ C. C < 2 ^ rules_in text) → IfSome c (λ C. C < 65536)
    small None h = h
    small (Some C) h = omega (arith, h, pow_mono (rules_most text))

module _ (text order : List ℕ) where
  pub one_core_by_text : {number line : ℕ} → text_outcome text ≡ Refused number line → RefusedBy number line ≡ one_core_answer text order
  unfolding one_core_answer
  one_core_by_text e = sym (given_refused _ ((one_core_numbers text order).by_text _ _ e))

  pub one_core_by_order : text_outcome text ≡ Accepted → ¬ IsOrder (rules_in text) order → RefusedBy 13 0 ≡ one_core_answer text order
  unfolding one_core_answer
  one_core_by_order e n = sym (given_refused _ ((one_core_numbers text order).by_order e n))

  pub one_core_given : text_outcome text ≡ Accepted → IsOrder (rules_in text) order → Given (one_core_in text order) ≡ one_core_answer text order
  unfolding one_core_answer
  one_core_given e o = sym (given_accepted _ ((one_core_numbers text order).by_none e o))
