-- What a log of states, a byte for each second, says of the rules and of the bad states of a transition system. From document 02, "Blame from a
-- station's log". The rules are given by two tests: the state s meets the start part of rule i (`start_met i s`), and the pair of the states s and t, one
-- second later, meets its step part (`step_met i s t`). Assumes nothing: these are definitions.
use Rattle.std.specs.Prelude.{ℕ, suc, ◌-◌, ◌<◌, ◌≡◌, Bool, true, false, not, ◌&&◌, ◌||◌, List, Option, IfSome, IfNone, leb, ltb, length, get_or, position}
use Rattle.sets.specs.Bit.{has}
use Rattle.sets.specs.Gathered.{set_of}
use Rattle.systems.specs.Least.{any}
use Rattle.logs.specs.declared.blame.Blamed.{Blamed}

-- ---- a log

-- A log of n states: it is not empty, and has no state of n or more.
pub record IsLog (n : ℕ) (log : List ℕ) : Type 0 where
  pub nonempty : 0 < length log
  pub states : (k : ℕ) → k < length log → get_or log k 0 < n

-- The test for it.
unfoldable pub is_log : ℕ → List ℕ → Bool
unfolding any
is_log n log = ltb 0 (length log) && not (any (length log) (λ k. leb n (get_or log k 0)))

-- ---- what it says

-- Rule i is broken in the log: its start part fails in the first state, or its step part fails between neighbours.
pub data BrokenIn (start_met : ℕ → ℕ → Bool) (step_met : ℕ → ℕ → ℕ → Bool) (log : List ℕ) (i : ℕ) : Type 0 where
  broken_at_start : start_met i (get_or log 0 0) ≡ false → BrokenIn start_met step_met log i
  broken_at_step : (k : ℕ) → suc k < length log → step_met i (get_or log k 0) (get_or log (suc k) 0) ≡ false → BrokenIn start_met step_met log i

-- What a log says: the set of the rules that are broken anywhere in it, and the place (0 is the first) of the first bad state, if there is one.
pub record LogSays (R : ℕ) (start_met : ℕ → ℕ → Bool) (step_met : ℕ → ℕ → ℕ → Bool) (bad : ℕ → Bool) (log : List ℕ) (b : Blamed) : Type 0 where
  pub at_start : (i : ℕ) → i < R → start_met i (get_or log 0 0) ≡ false → has b.set i ≡ true
  pub at_step : (i k : ℕ) → i < R → suc k < length log → step_met i (get_or log k 0) (get_or log (suc k) 0) ≡ false → has b.set i ≡ true
  pub only : (i : ℕ) → has b.set i ≡ true → (i < R) × BrokenIn start_met step_met log i
  pub within : IfSome b.breach (λ place. place < length log)
  pub breaks : IfSome b.breach (λ place. bad (get_or log place 0) ≡ true)
  pub before : IfSome b.breach (λ place. (k : ℕ) → k < place → bad (get_or log k 0) ≡ false)
  pub none : IfNone b.breach ((k : ℕ) → k < length log → bad (get_or log k 0) ≡ false)

-- ---- the same as functions that compute: proofs/Laws/Log proves that they give it

-- Rule i is broken in the first state, or between one of the first n pairs of neighbours.
unfoldable pub is_broken : (start_met : ℕ → ℕ → Bool) (step_met : ℕ → ℕ → ℕ → Bool) → List ℕ → ℕ → ℕ → Bool
unfolding any
is_broken start_met step_met log n i = not (start_met i (get_or log 0 0)) || any n (λ k. not (step_met i (get_or log k 0) (get_or log (suc k) 0)))

-- How many pairs of neighbours a log has: one fewer than states.
unfoldable pub neighbours : List ℕ → ℕ
neighbours log = length log - 1

-- The set of those of R rules that are broken in the log.
unfoldable pub blamed_set : (R : ℕ) (start_met : ℕ → ℕ → Bool) (step_met : ℕ → ℕ → ℕ → Bool) → List ℕ → ℕ
unfolding set_of is_broken neighbours
blamed_set R start_met step_met log = set_of R (is_broken start_met step_met log (neighbours log))

-- The place of the first bad state.
unfoldable pub breach_place : (bad : ℕ → Bool) → List ℕ → Option ℕ
breach_place bad log = position bad log

unfoldable pub blame_of : (R : ℕ) (start_met : ℕ → ℕ → Bool) (step_met : ℕ → ℕ → ℕ → Bool) (bad : ℕ → Bool) → List ℕ → Blamed
unfolding blamed_set breach_place
blame_of R start_met step_met bad log = record { set = blamed_set R start_met step_met log; breach = breach_place bad log }
