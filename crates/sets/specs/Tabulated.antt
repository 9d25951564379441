-- A list given entry by entry, as an array is that a loop fills.
-- Assumes nothing: this is a definition.
use Rattle.std.specs.Prelude.{ℕ, zero, suc, List, [], ◌∷◌, ◌++◌}

-- The list f 0, f 1 and so on, up to the one before f n.
unfoldable pub tabulate : {A : Type 0} → ℕ → (ℕ → A) → List A
tabulate zero f = []
tabulate (suc n) f = tabulate n f ++ f n ∷ []
