-- Which states are marked: those that some run ends in. Assumes nothing: this is a definition.
use Rattle.std.specs.Prelude.{ℕ, Bool, false, ◌||◌, List, [], ◌∷◌, eqb}
use Rattle.systems.specs.System.{last}

-- State s is marked: one of the runs ends in it.
unfoldable pub is_marked : List (List ℕ) → ℕ → Bool
unfolding last
is_marked [] s = false
is_marked (r ∷ q) s = eqb (last r) s || is_marked q s
