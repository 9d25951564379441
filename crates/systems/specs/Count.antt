-- How many numbers below a bound pass a test. Assumes nothing: this is a definition.
use Rattle.std.specs.Prelude.{ℕ, zero, suc, ◌+◌, Bool}
use Rattle.sets.specs.Gathered.{one}

-- How many k below n have p k.
unfoldable pub count : ℕ → (ℕ → Bool) → ℕ
unfolding one
count zero p = 0
count (suc n) p = count n p + one (p n)
