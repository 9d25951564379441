-- The loop of `logs::blame::breach_place`: no state before the one in hand is bad. Assumes nothing: this is a definition.
use Rattle.std.proofs.Common.{◌≡◌, ◌<◌, ℕ, false, get_or}
use Rattle.systems.specs.ByTables.{mark_at}
use Rattle.logs.proofs.blame.breach_place.Given as goal

abbrev pub invariant-loop-place : goal.invariant-loop-place
invariant-loop-place l = (k : ℕ) → k < l.place → mark_at l.systems.tables.now.bad (get_or l.log k 0) ≡ false
