-- The numbers that pass a test, from a place on: the first of them, which loops look for, and all of them, which loops go over one by one.
-- Assumes nothing: these are definitions.
use Rattle.std.specs.Prelude.{ℕ, ◌-◌, ◌≤◌, ◌<◌, ◌≡◌, Bool, true, false, Option, List, filter}
use Rattle.std.specs.List.{find, range_with_len}

-- r is the first number from s on that passes, or n.
pub record NextFrom (p : ℕ → Bool) (s n r : ℕ) : Type 0 where
  pub within : r ≤ n
  pub after : s ≤ n → s ≤ r
  pub passes : r < n → p r ≡ true
  pub passed : (k : ℕ) → s ≤ k → k < r → p k ≡ false

-- The first number from s on and below n that passes, if one does.
unfoldable pub next_if_any : (ℕ → Bool) → ℕ → ℕ → Option ℕ
next_if_any p s n = find p (range_with_len s (n - s))

-- All numbers from s on and below n that pass, by number.
unfoldable pub passing_from : (ℕ → Bool) → ℕ → ℕ → List ℕ
passing_from p s n = filter p (range_with_len s (n - s))
