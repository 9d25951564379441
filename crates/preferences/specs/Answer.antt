-- What finding one core answers to a text and an order of its rules.
-- From document 02, "One core, in my order of preference". Assumes nothing: these are definitions.
use Rattle.std.specs.Prelude.{ℕ, not, List}
use Rattle.sets.specs.declared.one_core.OneCore.{OneCore}
use Rattle.sets.specs.Orders.{is_order}
use Rattle.sets.specs.OneCore.{one_core_of}
use Rattle.refusals.specs.Answers.{Answer, Outcome}
use Rattle.calls.specs.Answers.{rules_in, judge_in, ◌or_else◌, refused_if, text_outcome, given}

-- What is found by an order of the rules of a text's model.
unfoldable pub one_core_in : (text order : List ℕ) → OneCore
unfolding one_core_of rules_in judge_in
one_core_in text order = one_core_of (rules_in text) (judge_in text) order

-- 13: the order is not R bytes that have each place from 0 to R - 1 exactly once.
unfoldable pub order_outcome : (text order : List ℕ) → Outcome
unfolding refused_if is_order rules_in
order_outcome text order = refused_if (not (is_order (rules_in text) order)) 13

-- "It is tried after number 9."
unfoldable pub one_core_outcome : (text order : List ℕ) → Outcome
unfolding ◌or_else◌ text_outcome order_outcome
one_core_outcome text order = text_outcome text or_else order_outcome text order

unfoldable pub one_core_answer : (text order : List ℕ) → Answer OneCore
unfolding given one_core_outcome one_core_in
one_core_answer text order = given (one_core_outcome text order) (one_core_in text order)
