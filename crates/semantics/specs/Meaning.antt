-- What a model means, in the words of document 01, "States, sets, runs", and of document 02, "Several properties together" and "Rules that speak about
-- power-up": the transition system of a model and a rule set, and the verdict on the set. Assumes nothing: these are definitions.
use Rattle.std.specs.Prelude.{ℕ, zero, suc, ◌^◌, Bool, true, not, ◌&&◌, ◌||◌, length}
use Rattle.std.proofs.Math.Option.{Option, none, some}
use Rattle.sets.specs.Bit.{has}
use Rattle.exprs.specs.Expr.{Expr, value}
use Rattle.models.specs.Written.{Described, property_at, rule_at}
use Rattle.systems.specs.System.{System}
use Rattle.systems.specs.Verdict.{holds}

-- Every number below n passes the test p.
unfoldable pub every : ℕ → (ℕ → Bool) → Bool
every zero p = true
every (suc n) p = every n p && p n

-- Of the first n rules each that is in the set S passes the test p.
unfoldable pub every_in : (n S : ℕ) → (ℕ → Bool) → Bool
unfolding every has
every_in n S p = every n (λ i. not (has S i) || p i)

-- The state s meets `init`, which has small letters only.
unfoldable pub init_met : Described → ℕ → Bool
unfolding value
init_met M s = value M.init s s

-- The state s meets a start part, which has small letters only; a missing one counts as `1`.
unfoldable pub start_part_met : Option Expr → ℕ → Bool
unfolding value
start_part_met none s = true
start_part_met (some e) s = value e s s

-- The state s meets the start part of rule i.
unfoldable pub start_met : Described → ℕ → ℕ → Bool
unfolding start_part_met
start_met M i s = start_part_met (rule_at M.rules i).start s

-- The start states of a set are those that meet `init` and the start part of each rule in the set.
unfoldable pub start_of : Described → ℕ → ℕ → Bool
unfolding init_met every_in start_met
start_of M S s = init_met M s && every_in (length M.rules) S (λ i. start_met M i s)

-- The state s meets property j, which has small letters only.
unfoldable pub property_met : Described → ℕ → ℕ → Bool
unfolding value
property_met M j s = value (property_at M.props j) s s

-- A bad state breaks some property.
unfoldable pub bad_of : Described → ℕ → Bool
unfolding every property_met
bad_of M s = not (every (length M.props) (λ j. property_met M j s))

-- The pair of the states s and t, one second later, meets the step part of rule i.
unfoldable pub step_met : Described → ℕ → ℕ → ℕ → Bool
unfolding value
step_met M i s t = value (rule_at M.rules i).step s t

-- A step of a set is a pair of states that meets every rule of the set.
unfoldable pub step_of : Described → ℕ → ℕ → ℕ → Bool
unfolding every_in step_met
step_of M S s t = every_in (length M.rules) S (λ i. step_met M i s t)

-- The system of a model and a rule set: states 0 to 2^N - 1, and the start states of the set.
unfoldable pub system_of : Described → ℕ → System
unfolding start_of step_of bad_of
system_of M S = record { size = 2 ^ M.vars; start = start_of M S; step = step_of M S; bad = bad_of M }

-- The set holds: every reached state meets every property.
unfoldable pub judge : Described → ℕ → Bool
unfolding system_of holds
judge M S = holds (system_of M S)
