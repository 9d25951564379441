-- What listing sets answers, and what the lent bytes hold afterwards: where they are fewer than two for each set, none of them changes.
-- From the bytes of a list. These are definitions.
use Rattle.std.specs.Prelude.{ℕ, ◌*◌, cond, List, Option, Some, None, ltb, length}
use Rattle.sets.specs.Lists.{bytes_of, overwritten}

-- How many sets are listed; none where the bytes are too few.
unfoldable pub listed_answer : (sets lent : List ℕ) → Option ℕ
listed_answer sets lent = cond (ltb (length lent) (2 * length sets)) None (Some (length sets))

-- The lent bytes afterwards.
unfoldable pub listed_bytes : (sets lent : List ℕ) → List ℕ
unfolding bytes_of overwritten
listed_bytes sets lent = cond (ltb (length lent) (2 * length sets)) lent (overwritten (bytes_of sets) lent)
