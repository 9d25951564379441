-- `preferences::one_core::one_core` meets its contract: each way out is a case of the answer.
-- From the laws of the answer. Assumes nothing.
use Rattle.std.proofs.Common.{ℕ, ◌≡◌, sym, ap, ap₂, ◌∙◌, Bool, true, false, List, rules}
use mathlib.Core.Bool.{true≢false}
use Rattle.sets.specs.declared.one_core.OneCore.{OneCore}
use Rattle.sets.specs.Orders.{IsOrder, is_order}
use Rattle.sets.specs.OneCore.{one_core_of}
use Rattle.sets.specs.Laws.Orders.{is_order_iff}
use Rattle.semantics.specs.declared.model_text.ModelText.{ModelText}
use Rattle.semantics.specs.ByText.{described_by}
use Rattle.semantics.specs.Meaning.{judge}
use Rattle.refusals.specs.Answers.{Given, RefusedBy}
use Rattle.calls.specs.AsRead.{IsModelOf}
use Rattle.calls.specs.Answers.{judge_in}
use Rattle.calls.proofs.Laws.Answers.{rules_read_lem, text_model}
use Rattle.preferences.specs.Answer.{one_core_in, one_core_answer}
use Rattle.preferences.proofs.Laws.Answer.{one_core_by_order, one_core_given}
use Rattle.preferences.proofs.one_core.one_core.Goals as goal

module _ {text : List ℕ} {m : ModelText} (r : IsModelOf text m) (order : List ℕ) {b : Bool} (said : b ≡ is_order m.model.rules order) where
  ordered : b ≡ true → IsOrder m.model.rules order
  ordered t = (is_order_iff m.model.rules order).0 (sym said ∙ t)

  not_ordered : b ≡ false → RefusedBy 13 0 ≡ one_core_answer text order
  not_ordered f =
      one_core_by_order text order r.read.outcome
      (λ o. true≢false (sym ((is_order_iff m.model.rules order).1 (rw (rules_read_lem r.read) o)) ∙ sym said ∙ f))

  -- what is found by the places of the model is what the text's model leaves
  given : b ≡ true → {c : OneCore} → c ≡ one_core_of m.model.rules (judge (described_by m)) order → Given c ≡ one_core_answer text order
  unfolding one_core_in judge_in
  given t {c} e =
      ap Given (e ∙ ap₂ (λ (R : ℕ) D. one_core_of R (judge D) order) (rules_read_lem r.read) (text_model r))
      ∙ one_core_given text order r.read.outcome (rw (rules_read_lem r.read) at (ordered t))

pub returns-then-not-is_order : goal.returns-then-not-is_order
returns-then-not-is_order c =
    rw c.into.ensures (not_ordered c.in_ok-m.ensures.read c.args.order.now c.is_order.ensures c.if-not-is_order.true)

pub one_core-found-requires : goal.one_core-found-requires
one_core-found-requires c = record { order = ordered c.in_ok-m.ensures.read c.args.order.now c.is_order.ensures c.if-not-is_order.false }

-- searched for, so that an edit which puts the answer together anew is refused for its parts alone
pub returns : goal.returns
returns c =
    let found = given c.in_ok-m.ensures.read c.args.order.now c.is_order.ensures c.if-not-is_order.false c.one_core-found.ensures in
    search (rules, found)
