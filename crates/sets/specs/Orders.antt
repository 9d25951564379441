-- An order of the rules, as a list of their places: place 0 is the first rule.
-- From document 02, "One core, in my order of preference". Assumes nothing: these are definitions.
use Rattle.std.specs.Prelude.{ℕ, ◌+◌, ◌<◌, ◌≡◌, Bool, true, not, ◌&&◌, List, [], ◌∷◌, ◌++◌, eqb, length, get_or}
use Rattle.sets.specs.Bit.{has}
use Rattle.sets.specs.Gathered.{one}
use Rattle.sets.specs.Cores.{none_below}
use Rattle.sets.specs.Lists.{select}

-- How many times place i stands in a list.
unfoldable pub times_in : ℕ → List ℕ → ℕ
unfolding one
times_in i [] = 0
times_in i (place ∷ rest) = one (eqb place i) + times_in i rest

-- R bytes that have each place from 0 to R - 1 exactly once.
pub record IsOrder (R : ℕ) (order : List ℕ) : Type 0 where
  pub size : length order ≡ R
  pub once : (i : ℕ) → i < R → times_in i order ≡ 1

-- The test for an order: R bytes, and no place below R stands there any other number of times than once.
unfoldable pub is_order : ℕ → List ℕ → Bool
unfolding none_below times_in
is_order R order = eqb (length order) R && none_below (λ i. not (eqb (times_in i order) 1)) R

-- The rules of set S stand behind all others in the order.
pub record StandLast (S : ℕ) (order : List ℕ) : Type 0 where
  pub behind : (j k : ℕ) → j < k → k < length order → has S (get_or order j 0) ≡ true → has S (get_or order k 0) ≡ true

-- The order of R rules that has those outside set S first, by number, and then those of S.
unfoldable pub outside_first : ℕ → ℕ → List ℕ
unfolding has select
outside_first R S = select (λ i. not (has S i)) R ++ select (has S) R
