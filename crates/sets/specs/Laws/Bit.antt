-- Which rules the full set, what is left of it, one rule alone and a meet have.
-- From the places' digits, by induction on the places.
use Rattle.std.specs.Prelude.{ℕ, zero, suc, ◌+◌, ◌-◌, ◌/◌, ◌%◌, ◌^◌, ◌≤◌, ◌<◌, min, max, ◌≡◌, refl, ◌↔◌, ◌≢◌, ◌⊎◌, true, not, eqb}
use Rattle.std.proofs.Common.{zero-le, sym, ap, ap₂, ◌∙◌, inl, inr, ⊎_elim, arith, pow-suc, lt_of_not-le, one-add, pow_pos, shr-shr, eqb-true, eq-eqb}
use Rattle.std.specs.Bool.{beq}
use Rattle.std.proofs.Math.Arith.{bin_ind}
use Rattle.std.specs.Int.Bits.{bit_and, bit_or, bit_xor, differ, and_step, or_step, xor_step}
use Rattle.std.proofs.lemmas.Nat.{and_le_l}
use Rattle.std.proofs.Math.Pow.{field, mod-mod-pow, ones_lt}
use Rattle.sets.specs.Bit.{full, has}

-- ---- the digit at a place, found by halving: an induction on the places sees one digit after the other

digit : ℕ → ℕ → ℕ
digit S zero = S % 2
digit S (suc i) = digit (S / 2) i

digit_at : (S i : ℕ) → digit S i ≡ S / 2 ^ i % 2
unfolding digit
digit_at S zero = omega arith
digit_at S (suc i) = digit_at (S / 2) i ∙ ap (λ (x : ℕ). x % 2) (shr-shr S 1 i) ∙ rw one-add

digit_lt : (S i : ℕ) → digit S i < 2
digit_lt S i = rw digit_at (omega arith)

has_digit : (S i : ℕ) → (has S i ≡ true) ↔ (digit S i ≡ 1)
unfolding has
has_digit S i =
    (λ e. digit_at S i ∙ eqb-true (S / 2 ^ i % 2) 1 e, λ e. eq-eqb (S / 2 ^ i % 2) 1 (sym (digit_at S i) ∙ e))

digits_le : (S T : ℕ) → ((i : ℕ) → digit S i ≤ digit T i) → S ≤ T
unfolding digit
digits_le =
    bin_ind (λ (S : ℕ). (T : ℕ) → ((i : ℕ) → digit S i ≤ digit T i) → S ≤ T) (λ T h. zero-le)
    (λ S below T h. omega (arith, below (T / 2) (λ i. h (suc i)), h 0))

some_digit : (S : ℕ) → S ≢ 0 → (i : ℕ) × (digit S i ≡ 1)
unfolding digit
some_digit =
    bin_ind (λ (S : ℕ). S ≢ 0 → (i : ℕ) × (digit S i ≡ 1)) (λ e. absurd (e refl))
    (λ S below e. pick S below e (S % 2) refl)
  where
    pick : (S : ℕ) → (S / 2 ≢ 0 → (i : ℕ) × (digit (S / 2) i ≡ 1)) → S ≢ 0 → (d : ℕ) → S % 2 ≡ d
        → (i : ℕ) × (digit S i ≡ 1)
    pick S below e zero m = let r = below (omega arith) in (suc r.0, r.1)
    pick S below e (suc d) m = (0, omega arith)

digit_and : (S T i : ℕ) → digit (bit_and S T) i ≡ min (digit S i) (digit T i)
unfolding digit
digit_and S T zero = omega (arith, and_step S T)
digit_and S T (suc i) =
    let half : bit_and S T / 2 ≡ bit_and (S / 2) (T / 2) = omega (arith, and_step S T) in
    rw half (digit_and (S / 2) (T / 2) i)

digit_or : (S T i : ℕ) → digit (bit_or S T) i ≡ max (digit S i) (digit T i)
unfolding digit
digit_or S T zero = omega (arith, or_step S T)
digit_or S T (suc i) =
    let half : bit_or S T / 2 ≡ bit_or (S / 2) (T / 2) = omega (arith, or_step S T) in
    rw half (digit_or (S / 2) (T / 2) i)

differ_lt : (d e : ℕ) → d < 2 → e < 2 → differ d e < 2
differ_lt zero e h l = l
differ_lt (suc zero) zero h l = h
differ_lt (suc zero) (suc e) h l = omega arith
differ_lt (suc (suc d)) e h l = absurd (omega arith)

digit_xor : (S T i : ℕ) → digit (bit_xor S T) i ≡ differ (digit S i) (digit T i)
unfolding digit
digit_xor S T zero = omega (arith, xor_step S T, differ_lt (S % 2) (T % 2) (omega arith) (omega arith))
digit_xor S T (suc i) =
    let half : bit_xor S T / 2 ≡ bit_xor (S / 2) (T / 2) = omega (arith, xor_step S T, differ_lt (S % 2) (T % 2) (omega arith) (omega arith)) in
    rw half (digit_xor (S / 2) (T / 2) i)

digit_minus : (S T i : ℕ) → digit (S - bit_and S T) i + min (digit S i) (digit T i) ≡ digit S i
unfolding digit
digit_minus S T zero = omega (arith, and_step S T, and_le_l (S / 2) (T / 2))
digit_minus S T (suc i) =
    let half : (S - bit_and S T) / 2 ≡ S / 2 - bit_and (S / 2) (T / 2) = omega (arith, and_step S T, and_le_l (S / 2) (T / 2)) in
    rw half (digit_minus (S / 2) (T / 2) i)

digit_above : (R S i : ℕ) → S < 2 ^ R → R ≤ i → digit S i ≡ 0
unfolding digit
digit_above zero S zero h l = omega arith
digit_above zero S (suc i) h l = digit_above zero (S / 2) i (omega arith) (omega arith)
digit_above (suc R) S zero h l = omega arith
digit_above (suc R) S (suc i) h l = digit_above R (S / 2) i (omega (arith, pow-suc 2 R)) (omega arith)

full_half : (R : ℕ) → full (suc R) / 2 ≡ full R
full_half R = omega (arith, pow-suc 2 R)

digit_full : (R i : ℕ) → i < R → digit (full R) i ≡ 1
unfolding digit
digit_full zero i h = omega arith
digit_full (suc R) zero h = omega (arith, pow-suc 2 R, pow_pos R)
digit_full (suc R) (suc i) h = rw full_half (digit_full R i (omega arith))

digit_rest : (R S i : ℕ) → S < 2 ^ R → digit (full R - S) i + digit S i ≡ digit (full R) i
unfolding digit
digit_rest zero S zero h = omega arith
digit_rest zero S (suc i) h =
    let half : (0 - S) / 2 ≡ 0 - S / 2 = omega arith in
    rw half (digit_rest zero (S / 2) i (omega arith))
digit_rest (suc R) S zero h = omega (arith, pow-suc 2 R)
digit_rest (suc R) S (suc i) h =
    let half : (full (suc R) - S) / 2 ≡ full R - S / 2 = omega (arith, pow-suc 2 R) in
    rw (half, full_half) (digit_rest R (S / 2) i (omega (arith, pow-suc 2 R)))

one_half : (i : ℕ) → 2 ^ suc i / 2 ≡ 2 ^ i
one_half i = omega (arith, pow-suc 2 i)

digit_one : (i : ℕ) → digit (2 ^ i) i ≡ 1
unfolding digit
digit_one zero = refl
digit_one (suc i) = rw one_half (digit_one i)

digit_other : (i j : ℕ) → digit (2 ^ i) j ≡ 1 → j ≡ i
unfolding digit
digit_other zero zero h = refl
digit_other zero (suc j) h = absurd (omega (arith, digit_above 0 0 j (omega arith) zero-le))
digit_other (suc i) zero h = absurd (omega (arith, pow-suc 2 i))
digit_other (suc i) (suc j) h = ap suc (digit_other i j (rw one_half at h))

-- ---- the laws

-- The first place, and the places behind it, which half the number has.
pub has_front : (S : ℕ) → has S 0 ≡ eqb (S % 2) 1
unfolding has digit
has_front S = ap (λ (d : ℕ). eqb d 1) (sym (digit_at S 0))

pub has_behind : (S i : ℕ) → has S (suc i) ≡ has (S / 2) i
unfolding has digit
has_behind S i = ap (λ (d : ℕ). eqb d 1) (sym (digit_at S (suc i)) ∙ digit_at (S / 2) i)

-- Places from n on make no difference to a place below n.
pub has_low : (n S i : ℕ) → i < n → has (S % 2 ^ n) i ≡ has S i
unfolding has
has_low n S i h =
    let e : n ≡ n - suc i + (1 + i) = omega arith in
    ap (λ (x : ℕ). eqb x 1) (sym (field (S % 2 ^ n) 1 i) ∙ ap (λ (x : ℕ). x / 2 ^ i) (rw (e, mod-mod-pow)) ∙ field S 1 i)

-- The places from n on, as a number of their own.
pub has_high : (n S i : ℕ) → has (S / 2 ^ n) i ≡ has S (n + i)
unfolding has
has_high n S i = ap (λ (x : ℕ). eqb (x % 2) 1) (shr-shr S n i)

-- Which rules are in both of two sets.
pub has_and : (S T i : ℕ) → (has (bit_and S T) i ≡ true) ↔ ((has S i ≡ true) × (has T i ≡ true))
has_and S T i =
    simp has_digit
    (λ e. omega (arith, digit_and S T i, digit_lt S i, digit_lt T i), λ e. omega (arith, digit_and S T i))

-- Which rules are in one of two sets.
pub has_or : (S T i : ℕ) → (has (bit_or S T) i ≡ true) ↔ ((has S i ≡ true) ⊎ (has T i ≡ true))
has_or S T i = (
  λ e. either (digit S i) refl ((has_digit (bit_or S T) i).0 e),
  ⊎_elim
      (λ e. (has_digit (bit_or S T) i).1 (omega (arith, digit_or S T i, digit_lt T i, (has_digit S i).0 e)))
      (λ e. (has_digit (bit_or S T) i).1 (omega (arith, digit_or S T i, digit_lt S i, (has_digit T i).0 e))),
)
  where
    either : (d : ℕ) → digit S i ≡ d → digit (bit_or S T) i ≡ 1 → (has S i ≡ true) ⊎ (has T i ≡ true)
    either zero e m = inr ((has_digit T i).1 (omega (arith, digit_or S T i)))
    either (suc d) e m = inl ((has_digit S i).1 (omega (arith, digit_lt S i)))

-- Which rules are in exactly one of two sets.
pub has_xor : (S T i : ℕ) → has (bit_xor S T) i ≡ not (beq (has S i) (has T i))
unfolding has
has_xor S T i =
    ap (λ (d : ℕ). eqb d 1) (sym (digit_at (bit_xor S T) i) ∙ digit_xor S T i)
    ∙ told (digit S i) (digit T i) (digit_lt S i) (digit_lt T i)
    ∙ ap₂ (λ (d e : ℕ). not (beq (eqb d 1) (eqb e 1))) (digit_at S i) (digit_at T i)
  where
    told : (d e : ℕ) → d < 2 → e < 2 → eqb (differ d e) 1 ≡ not (beq (eqb d 1) (eqb e 1))
    told zero zero h l = refl
    told zero (suc zero) h l = refl
    told (suc zero) zero h l = refl
    told (suc zero) (suc zero) h l = refl
    told (suc (suc d)) e h l = absurd (omega arith)
    told zero (suc (suc e)) h l = absurd (omega arith)
    told (suc zero) (suc (suc e)) h l = absurd (omega arith)

-- Which rules are in the first of two sets and not in the second.
pub has_minus : (S T i : ℕ) → (has (S - bit_and S T) i ≡ true) ↔ ((has S i ≡ true) × (¬ (has T i ≡ true)))
has_minus S T i =
    simp has_digit (
      λ e. omega (arith, digit_minus S T i, digit_lt S i),
      λ e. omega (arith, digit_minus S T i, digit_lt T i),
    )

-- A set whose rules are all in another has no greater number.
pub has_le : (S T : ℕ) → ((i : ℕ) → has S i ≡ true → has T i ≡ true) → S ≤ T
has_le S T h = digits_le S T (λ i. at i (digit S i) refl)
  where
    at : (i d : ℕ) → digit S i ≡ d → digit S i ≤ digit T i
    at i zero e = omega arith
    at i (suc d) e = omega (arith, digit_lt S i, (has_digit T i).0 (h i ((has_digit S i).1 (omega (arith, digit_lt S i)))))

-- A set that is not set 0 has a rule.
pub has_some : (S : ℕ) → S ≢ 0 → (i : ℕ) × (has S i ≡ true)
has_some S h = let r = some_digit S h in (r.0, (has_digit S r.0).1 r.1)

-- The rules of a set below 2 ^ R are among the first R.
pub has_below : (R S i : ℕ) → S < 2 ^ R → has S i ≡ true → i < R
has_below R S i h e = lt_of_not-le (λ l. omega (arith, digit_above R S i h l, (has_digit S i).0 e))

-- Set 0 is empty.
pub has_zero : (i : ℕ) → ¬ (has 0 i ≡ true)
has_zero i e = omega (arith, has_below 0 0 i (omega arith) e)

-- The full set has the first R rules.
pub has_full : (R i : ℕ) → (has (full R) i ≡ true) ↔ (i < R)
has_full R i = (has_below R (full R) i (ones_lt R), λ h. (has_digit (full R) i).1 (digit_full R i h))

-- What is left of the full set without S has the rules that S lacks.
pub has_rest : (R S i : ℕ) → S < 2 ^ R → (has (full R - S) i ≡ true) ↔ ((i < R) × (¬ (has S i ≡ true)))
has_rest R S i h =
    simp has_digit (
      λ e. (
        has_below R (full R - S) i (omega (arith, pow_pos R)) ((has_digit (full R - S) i).1 e),
        omega (arith, digit_rest R S i h, digit_lt (full R) i),
      ),
      λ e. omega (arith, digit_rest R S i h, digit_full R i e.0, digit_lt S i),
    )

-- The set of rule i alone.
pub has_one : (i j : ℕ) → (has (2 ^ i) j ≡ true) ↔ (j ≡ i)
has_one i j = simp has_digit (digit_other i j, λ e. rw e (digit_one i))
