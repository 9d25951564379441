-- A state's bits: none past the width of the type; and a letter's bit in the next states 64 * block + t for t below 64, where the first six letters
-- are bits of t, and the others are bits of the block. From the places of a number. Assumes nothing.
use Prim.Native.Nat.{ℕ, ◌+◌, ◌-◌, ◌*◌, ◌/◌, ◌%◌, ◌^◌, ◌≤◌, ◌<◌}
use mathlib.Core.Path.{◌≡◌, refl, sym, ap, ◌∙◌}
use mathlib.Core.Bool.{Bool, true, false, cond}
use native.Mathlib.Nat.{div-eq_of_lt, lt_of_lt_of_le}
use native.Mathlib.Omega.{arith}
use lib.Pow.{pow_mono}
use Rattle.std.proofs.Common.{nat_lt}
use Rattle.std.proofs.lemmas.Bool.{ltb-false}
use Rattle.sets.specs.Bit.{has}
use Rattle.sets.specs.Laws.Bit.{has_low, has_high}
use Rattle.sets.specs.Gathered.{set_of}
use Rattle.sets.specs.Laws.Gathered.{set_of_same}

-- a place past the width of a number of 64 bits has no bit
pub shifted : (state place : ℕ) → state < 2 ^ 64 → cond (nat_lt place 64) (state / 2 ^ place) 0 ≡ state / 2 ^ place
shifted state place fits = go (nat_lt place 64) refl
  where
    go : (t : Bool) → nat_lt place 64 ≡ t → cond t (state / 2 ^ place) 0 ≡ state / 2 ^ place
    go true q = refl
    go false q = sym (div-eq_of_lt (lt_of_lt_of_le fits (pow_mono (ltb-false place 64 q))))

module _ (block t : ℕ) (l : t < 64) where
  low_bit : (i : ℕ) → i < 6 → has t i ≡ has (64 * block + t) i
  low_bit i h = let e : (64 * block + t) % 2 ^ 6 ≡ t = omega arith in ap (λ (x : ℕ). has x i) (sym e) ∙ has_low 6 (64 * block + t) i h

  high_bit : (i : ℕ) → 6 ≤ i → has block (i - 6) ≡ has (64 * block + t) i
  high_bit i h =
      let e : (64 * block + t) / 2 ^ 6 ≡ block = omega arith in
      let f : 6 + (i - 6) ≡ i = omega arith in
      ap (λ (x : ℕ). has x (i - 6)) (sym e) ∙ has_high 6 (64 * block + t) (i - 6) ∙ ap (has (64 * block + t)) f

pub low_letter : (place block word : ℕ) → place < 6 → word ≡ set_of 64 (λ t. has t place) → word ≡ set_of 64 (λ t. has (64 * block + t) place)
low_letter place block word h said = said ∙ set_of_same 64 (λ t. has t place) (λ t. has (64 * block + t) place) (λ t l. low_bit block t l place h)

pub high_letter : (place block word : ℕ) (v : Bool) → 6 ≤ place → v ≡ has block (place - 6) → word ≡ set_of 64 (λ t. v)
    → word ≡ set_of 64 (λ t. has (64 * block + t) place)
high_letter place block word v h e said =
    said ∙ set_of_same 64 (λ t. v) (λ t. has (64 * block + t) place) (λ t l. e ∙ high_bit block t l place h)
