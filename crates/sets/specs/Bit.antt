-- A number as a set: rule i is in set S where place i of S is a one; in a state, letter i is true there.
-- Assumes nothing: these are definitions.
use Rattle.std.specs.Prelude.{ℕ, ◌-◌, ◌/◌, ◌%◌, ◌^◌, Bool, eqb}

-- Rule i is in set S (and letter i is true in state S): place i of S, which weighs 2 ^ i, is a one.
unfoldable pub has : ℕ → ℕ → Bool
has S i = eqb (S / 2 ^ i % 2) 1

-- All R rules.
abbrev pub full : ℕ → ℕ
full R = 2 ^ R - 1
