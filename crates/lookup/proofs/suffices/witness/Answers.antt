-- `lookup::suffices::witness`: each arm is its own case of `part_said` and of `address_said`. The witness stands within its list, so what follows its
-- place begins there.
use Rattle.std.proofs.Common.{ℕ, ◌≡◌, sym, ap, ◌∙◌, List, take, arith}
use Rattle.slices.specs.Address.{bytes_on, rest_address}
use Rattle.slices.specs.Laws.Address.{rest_within}
use Rattle.refusals.specs.Answers.{Answer, Given}
use Rattle.lookup.specs.declared.answer.Suffices.{Suffices}
use Rattle.lookup.specs.declared.answer.Suffices.TheVariants.{CoreInside, CutApart}
use Rattle.lookup.specs.Suffices.{suffices_answer, part_said, witness_of, address_said, by_answer}
use Rattle.lookup.specs.Laws.Suffices.{answer_said}
use Rattle.lookup.proofs.suffices.witness.Goals as goal

-- what is returned where the set was answered so
module _ (S : ℕ) (cores cuts : List ℕ) (s : Answer Suffices) (e : s ≡ suffices_answer S cores cuts) where
  part_told : part_said s cores cuts ≡ witness_of S cores cuts
  unfolding witness_of
  part_told = ap (λ a. part_said a cores cuts) e

  address_told : (p q : ℕ × ℕ) → address_said s p q ≡ address_said (suffices_answer S cores cuts) p q
  address_told p q = ap (λ a. address_said a p q) e

module _ (S : ℕ) (cores cuts : List ℕ) (place : ℕ) where
  inside_at : Given (CoreInside place) ≡ suffices_answer S cores cuts → (p : ℕ × ℕ) → rest_address p cores place ≡ bytes_on p place
  unfolding by_answer
  inside_at e p = rest_within p cores place (omega (arith, (((answer_said S cores cuts).inside place).0 (sym e)).1.there.within))

  apart_at : Given (CutApart place) ≡ suffices_answer S cores cuts → (p : ℕ × ℕ) → rest_address p cuts place ≡ bytes_on p place
  unfolding by_answer
  apart_at e p = rest_within p cuts place (omega (arith, (((answer_said S cores cuts).apart place).0 (sym e)).2.there.within))

pub returns-in-Ok-CoreInside-clause-result_value : goal.returns-in-Ok-CoreInside-clause-result_value
unfolding part_said
returns-in-Ok-CoreInside-clause-result_value c =
    let said = rw c.in-Ok-CoreInside.field-0-is at c.in-Ok-CoreInside.ensures in
    c.front.ensures.result_value ∙ ap (take 2) c.rest.ensures.result_value ∙ part_told _ _ _ _ said

pub returns-in-Ok-CoreInside-clause-ref_ptr_value : goal.returns-in-Ok-CoreInside-clause-ref_ptr_value
unfolding address_said
returns-in-Ok-CoreInside-clause-ref_ptr_value c =
    let said = rw c.in-Ok-CoreInside.field-0-is at c.in-Ok-CoreInside.ensures in
    c.front.ensures.ref_ptr_value ∙ c.rest.ensures.ref_ptr_value ∙ inside_at _ _ _ _ said _ ∙ address_told _ _ _ _ said _ _

pub returns-in-Ok-CutApart-clause-result_value : goal.returns-in-Ok-CutApart-clause-result_value
unfolding part_said
returns-in-Ok-CutApart-clause-result_value c =
    let said = rw c.in-Ok-CutApart.field-0-is at c.in-Ok-CutApart.ensures in
    c.front-in-Ok-CutApart.ensures.result_value ∙ ap (take 2) c.rest-in-Ok-CutApart.ensures.result_value ∙ part_told _ _ _ _ said

pub returns-in-Ok-CutApart-clause-ref_ptr_value : goal.returns-in-Ok-CutApart-clause-ref_ptr_value
unfolding address_said
returns-in-Ok-CutApart-clause-ref_ptr_value c =
    let said = rw c.in-Ok-CutApart.field-0-is at c.in-Ok-CutApart.ensures in
    c.front-in-Ok-CutApart.ensures.ref_ptr_value ∙ c.rest-in-Ok-CutApart.ensures.ref_ptr_value ∙ apart_at _ _ _ _ said _ ∙ address_told _ _ _ _ said _ _

pub returns-in-Ok-Unlisted-clause-result_value : goal.returns-in-Ok-Unlisted-clause-result_value
unfolding part_said
returns-in-Ok-Unlisted-clause-result_value c = part_told _ _ _ _ (rw c.in-Ok-Unlisted.field-0-is at c.in-Ok-Unlisted.ensures)

pub returns-in-Ok-Unlisted-clause-ref_ptr_value : goal.returns-in-Ok-Unlisted-clause-ref_ptr_value
unfolding address_said
returns-in-Ok-Unlisted-clause-ref_ptr_value c = address_told _ _ _ _ (rw c.in-Ok-Unlisted.field-0-is at c.in-Ok-Unlisted.ensures) _ _

pub returns-in-Err-clause-result_value : goal.returns-in-Err-clause-result_value
unfolding part_said
returns-in-Err-clause-result_value c = part_told _ _ _ _ c.in-Err.ensures

pub returns-in-Err-clause-ref_ptr_value : goal.returns-in-Err-clause-ref_ptr_value
unfolding address_said
returns-in-Err-clause-ref_ptr_value c = address_told _ _ _ _ c.in-Err.ensures _ _
