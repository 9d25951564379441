-- What the lists grow by when a bound grows by one, as a loop does it, and how many bytes there are.
-- From the definitions, by induction.
use Rattle.std.specs.Prelude.{ℕ, ◌*◌, ◌/◌, ◌%◌, ◌≡◌, refl, List, [], ◌∷◌, ◌++◌, length}
use Rattle.std.proofs.Common.{ap, arith}
use Rattle.sets.specs.Lists.{bytes_of}

-- ---- the laws

pub bytes_of_append : (l m : List ℕ) → bytes_of (l ++ m) ≡ bytes_of l ++ bytes_of m
unfolding bytes_of
bytes_of_append [] m = refl
bytes_of_append (S ∷ l) m = ap (λ (b : List ℕ). S % 256 ∷ S / 256 % 256 ∷ b) (bytes_of_append l m)

pub length_bytes_of : (l : List ℕ) → length (bytes_of l) ≡ 2 * length l
unfolding bytes_of
length_bytes_of [] = refl
length_bytes_of (S ∷ l) = omega (arith, length_bytes_of l)
