-- A list of sets in bytes: the first of its sets that passes a test, as the search gives it and as it is meant.
-- From document 02, "Quick answer in the configuration screen". Assumes nothing: these are definitions.
use Rattle.std.specs.Prelude.{ℕ, suc, ◌+◌, ◌*◌, ◌%◌, ◌<◌, ◌≡◌, Bool, cond, Option, Some, None, List, [], ◌∷◌, length, get_or}

-- The first listed set that passes the test q, by its place: that of the first of its two bytes. These bytes of the list begin at `place`.
unfoldable pub first_from : (ℕ → Bool) → ℕ → List ℕ → Option ℕ
first_from q place [] = None
first_from q place (odd ∷ []) = None
first_from q place (low ∷ high ∷ rest) = cond (q (low + 256 * high)) (Some place) (first_from q (suc (suc place)) rest)

unfoldable pub first_in : (ℕ → Bool) → List ℕ → Option ℕ
first_in q list = first_from q 0 list

-- ---- what it means

-- The set whose two bytes begin at a place of a list, low byte first.
unfoldable pub set_at_byte : List ℕ → ℕ → ℕ
set_at_byte list place = get_or list place 0 + 256 * get_or list (suc place) 0

-- A listed set that is P stands at the place.
pub record Stands (P : ℕ → Type 0) (list : List ℕ) (place : ℕ) : Type 0 where
  pub even : place % 2 ≡ 0
  pub within : suc place < length list
  pub itself : P (set_at_byte list place)

-- The first listed set that is P stands there.
pub record StandsFirst (P : ℕ → Type 0) (list : List ℕ) (place : ℕ) : Type 0 where
  pub there : Stands P list place
  pub none_before : (before : ℕ) → before < place → ¬ Stands P list before

-- No listed set is P.
abbrev pub NoneStands : (ℕ → Type 0) → List ℕ → Type 0
NoneStands P list = (place : ℕ) → ¬ Stands P list place
