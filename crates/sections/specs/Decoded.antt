-- The sets that bytes hold, two bytes a set, low byte first. Assumes nothing: this is a definition.
use Rattle.std.specs.Prelude.{ℕ, ◌+◌, ◌*◌, List, [], ◌∷◌}

-- the sets, in the order of the bytes; an odd byte at the end belongs to none
unfoldable pub decoded : List ℕ → List ℕ
decoded [] = []
decoded (a ∷ []) = []
decoded (a ∷ b ∷ bytes) = (a + 256 * b) ∷ decoded bytes
