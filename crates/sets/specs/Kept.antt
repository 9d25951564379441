-- The entries of a list that a set keeps.
-- Assumes nothing: this is a definition.
use Rattle.std.specs.Prelude.{ℕ, ◌/◌, cond, List, [], ◌∷◌}
use Rattle.sets.specs.Bit.{has}

-- The entries of a list whose places are in the set U, in their order.
unfoldable pub kept : {A : Type 0} → ℕ → List A → List A
unfolding has
kept U [] = []
kept U (x ∷ l) = let rest = kept (U / 2) l in let more = x ∷ rest in cond (has U 0) more rest
