-- Each set that bytes hold is found at its place, and those that the bytes of a list hold are the list. By induction over the bytes.
-- Assumes nothing.
use Rattle.std.specs.Prelude.{ℕ, zero, suc, ◌+◌, ◌*◌, ◌/◌, ◌%◌, ◌<◌, ◌≡◌, refl, List, [], ◌∷◌, length, get_or}
use Rattle.std.specs.List.{All}
use Rattle.std.specs.Int.{w16, from_le_bytes}
use Rattle.std.specs.Simd.{first_chunks}
use Rattle.std.proofs.Common.{ap₂, arith}
use Rattle.std.proofs.lemmas.List.Elements.{All-head, All-tail}
use Rattle.sets.specs.Lists.{bytes_of}
use Rattle.sections.specs.Decoded.{decoded}

pub decoded_length : (bytes : List ℕ) → length (decoded bytes) ≡ length bytes / 2
unfolding decoded
decoded_length [] = refl
decoded_length (a ∷ []) = refl
decoded_length (a ∷ b ∷ bytes) = omega (arith, decoded_length bytes)

pub decoded_at : (bytes : List ℕ) (i : ℕ) → i < length bytes / 2
    → get_or (decoded bytes) i 0 ≡ get_or bytes (2 * i) 0 + 256 * get_or bytes (2 * i + 1) 0
unfolding decoded
decoded_at [] i h = absurd (omega arith)
decoded_at (a ∷ []) i h = absurd (omega arith)
decoded_at (a ∷ b ∷ bytes) zero h = refl
decoded_at (a ∷ b ∷ bytes) (suc i) h =
    let low : 2 * suc i ≡ suc (suc (2 * i)) = omega arith in
    let high : suc (suc (2 * i)) + 1 ≡ suc (suc (2 * i + 1)) = omega arith in
    rw (low, high) (decoded_at bytes i (omega arith))

-- Each set is the number that a chunk of two bytes holds.
pub chunk_at : (count : ℕ) (bytes : List ℕ) → count ≡ length bytes / 2 → (i : ℕ) → i < count
    → from_le_bytes w16 (get_or (first_chunks 2 count bytes) i []) ≡ get_or (decoded bytes) i 0
unfolding decoded
chunk_at zero bytes e i h = absurd (omega arith)
chunk_at (suc count) [] e i h = absurd (omega arith)
chunk_at (suc count) (a ∷ []) e i h = absurd (omega arith)
chunk_at (suc count) (a ∷ b ∷ bytes) e zero h = omega arith
chunk_at (suc count) (a ∷ b ∷ bytes) e (suc i) h = chunk_at count bytes (omega arith) i (omega arith)

pub decoded_bytes : (l : List ℕ) → All (λ S. S < 65536) l → decoded (bytes_of l) ≡ l
unfolding decoded bytes_of
decoded_bytes [] h = refl
decoded_bytes (S ∷ l) h =
    let same : S % 256 + 256 * (S / 256 % 256) ≡ S = omega (arith, All-head (λ T. T < 65536) S l h) in
    ap₂ (λ (x : ℕ) (m : List ℕ). x ∷ m) same (decoded_bytes l (All-tail (λ T. T < 65536) S l h))
