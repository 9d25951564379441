-- How many property lines a text has. From document 02, "Several properties together": one to four `prop=` lines may follow `init=`.
-- Assumes nothing: these are definitions.
use Rattle.std.specs.Prelude.{ℕ, zero, suc, cond, List, [], ◌∷◌, eqb}
use Rattle.slices.specs.Same.{same}
use Rattle.lines.specs.Lines.{prop_key, starts_with}

-- what follows the first byte 10
unfoldable pub after_line : List ℕ → List ℕ
after_line [] = []
after_line (b ∷ s) = cond (eqb b 10) s (after_line s)

-- how many of the first so many lines of s start with `prop=`, up to the first that does not
unfoldable pub leading : ℕ → List ℕ → ℕ
unfolding same after_line
leading zero s = 0
leading (suc most) s = cond (starts_with prop_key s) (suc (leading most (after_line s))) 0

-- how many property lines s begins with, where one is due: the first is one whatever it holds, and so are those that follow it and start with `prop=`,
-- three at most
unfoldable pub property_count : List ℕ → ℕ
unfolding leading
property_count s = suc (leading 3 (after_line s))
