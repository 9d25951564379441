-- The lists of a judgement h of rule sets: its cores, its cuts and MUST; and the bytes in which a list is lent.
-- Assumes nothing: these are definitions.
use Rattle.std.specs.Prelude.{ℕ, zero, suc, ◌/◌, ◌%◌, ◌^◌, Bool, true, false, ◌&&◌, List, [], ◌∷◌, ◌++◌, eqb, length, drop}
use Rattle.std.specs.Int.Bits.{bit_and}
use Rattle.std.specs.Int.Count.{ones}
use Rattle.sets.specs.Cores.{is_core, is_cut}

-- The lists g 0, g 1 and so on, up to the one before g n, one after the other.
unfoldable pub joined : (ℕ → List ℕ) → ℕ → List ℕ
joined g zero = []
joined g (suc n) = joined g n ++ g n

-- S alone where a test of it was true, and nothing where it was false.
unfoldable pub one_if : Bool → ℕ → List ℕ
one_if true S = S ∷ []
one_if false S = []

-- The numbers below n that pass the test q, by number.
unfoldable pub select : (ℕ → Bool) → ℕ → List ℕ
unfolding joined one_if
select q n = joined (λ S. one_if (q S) S) n

-- S has k rules and passes the test q.
unfoldable pub sized : (ℕ → Bool) → ℕ → ℕ → Bool
unfolding ones
sized q k S = let passes = q S in eqb (ones S) k && passes

-- The numbers below n that have fewer than k rules and pass the test q: fewer rules first, then by number.
unfoldable pub by_size : (ℕ → Bool) → ℕ → ℕ → List ℕ
unfolding select sized
by_size q n k = joined (λ size. select (sized q size) n) k

-- The sets of R rules that pass the test q: fewer rules first, then by number.
unfoldable pub list_of : ℕ → (ℕ → Bool) → List ℕ
unfolding by_size
list_of R q = by_size q (2 ^ R) (suc R)

-- The core list of R rules that h judges, and their cut list.
unfoldable pub cores_of : ℕ → (ℕ → Bool) → List ℕ
unfolding list_of is_core
cores_of R h = list_of R (is_core h)

unfoldable pub cuts_of : ℕ → (ℕ → Bool) → List ℕ
unfolding list_of is_cut
cuts_of R h = list_of R (is_cut R h)

-- What S and all sets of a list have in common.
unfoldable pub meet : ℕ → List ℕ → ℕ
meet S [] = S
meet S (T ∷ l) = meet (bit_and S T) l

-- What all sets of a list have in common; if there is none, set 0.
unfoldable pub common : List ℕ → ℕ
unfolding meet
common [] = 0
common (S ∷ l) = meet S l

-- MUST: what all cores have in common; if there is no core, set 0.
unfoldable pub must_of : ℕ → (ℕ → Bool) → ℕ
unfolding common cores_of
must_of R h = common (cores_of R h)

-- A list in bytes: each set takes two, low byte first.
unfoldable pub bytes_of : List ℕ → List ℕ
bytes_of [] = []
bytes_of (S ∷ l) = S % 256 ∷ S / 256 % 256 ∷ bytes_of l

-- The lent bytes once new ones are written over their front: bytes past the new ones keep their content.
unfoldable pub overwritten : List ℕ → List ℕ → List ℕ
overwritten new lent = new ++ drop (length new) lent
