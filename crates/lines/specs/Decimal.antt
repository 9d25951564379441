-- A number in base ten, as a model text and a report write it: no leading zero, the first digit first, each as its ASCII byte.
-- Assumes nothing: these are definitions.
use Rattle.std.specs.Prelude.{ℕ, zero, suc, ◌+◌, ◌/◌, ◌%◌, cond, List, [], ◌∷◌, ◌++◌, ltb}

-- the digits of a number in base ten, and no more than so many of the last
unfoldable pub digits_in : ℕ → ℕ → List ℕ
digits_in zero n = []
digits_in (suc most) n = cond (ltb n 10) ((48 + n) ∷ []) (digits_in most (n / 10) ++ (48 + n % 10) ∷ [])

-- a number in base ten, with no leading zero; a number n has no more than n + 1 digits
unfoldable pub decimal : ℕ → List ℕ
unfolding digits_in
decimal n = digits_in (suc n) n
