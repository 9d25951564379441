-- One core by an order of the rules, dearest last, for any judgement h of rule sets; and how many judgements are made to find it.
-- From document 02, "One core, in my order of preference". Assumes nothing: these are definitions.
use Rattle.std.specs.Prelude.{ℕ, ◌+◌, Bool, cond, List, [], ◌∷◌, Some, None}
use Rattle.sets.specs.declared.one_core.OneCore.{OneCore}
use Rattle.sets.specs.Bit.{full}
use Rattle.sets.specs.Sets.{without}

-- Nothing has been judged yet.
unfoldable pub unjudged : OneCore
unjudged = record { core = None; judgements = 0 }

-- Set S was judged: it is found if it holds, and otherwise what was found before stays. This is one judgement more.
unfoldable pub after_verdict : OneCore → ℕ → Bool → OneCore
after_verdict c S holds = record { core = cond holds (Some S) c.core; judgements = c.judgements + 1 }

-- h is asked here and nowhere else below, so as many judgements are counted as are made.
unfoldable pub after_set : (ℕ → Bool) → OneCore → ℕ → OneCore
unfolding after_verdict
after_set h c S = after_verdict c S (h S)

-- Rule i is dropped from what was found when the remaining set still holds; where nothing was found, nothing is judged.
unfoldable pub after_rule : (ℕ → Bool) → OneCore → ℕ → OneCore
unfolding after_set without
after_rule h c i = elim c.core [ None ↦ c | Some S ↦ after_set h c (without S i) ]

-- Each rule in the order.
unfoldable pub after_order : (ℕ → Bool) → OneCore → List ℕ → OneCore
unfolding after_rule
after_order h c [] = c
after_order h c (i ∷ order) = after_order h (after_rule h c i) order

-- "The full set is judged; if it holds, each rule in that order is dropped when the remaining set still holds." Otherwise there is no core.
unfoldable pub one_core_of : ℕ → (ℕ → Bool) → List ℕ → OneCore
unfolding unjudged after_set after_order
one_core_of R h order = after_order h (after_set h unjudged (full R)) order
