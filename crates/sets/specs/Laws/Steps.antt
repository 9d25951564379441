-- How code goes through the sets above a set, and through those below it, by number: the next number up or down, with the rules that every
-- such set has put back in, or those that none has taken out. No set of the kind lies between. By induction on the places.
use Rattle.std.specs.Prelude.{ℕ, zero, suc, ◌+◌, ◌-◌, ◌/◌, ◌%◌, ◌≤◌, ◌<◌, ◌≡◌, refl}
use Rattle.std.proofs.Common.{arith}
use Rattle.std.proofs.Math.Arith.{bin_ind}
use Rattle.std.specs.Int.Bits.{bit_and, bit_or, and_step, or_step, and_zero_r, or_add_and}
use Rattle.std.proofs.lemmas.Nat.{and_comm}
use Rattle.sets.specs.Sets.{◌⊑◌}
use Rattle.sets.specs.Laws.Sets.{part_and}

up : (T S U : ℕ) → bit_and S T ≡ S → bit_and S U ≡ S → T < U → bit_or (T + 1) S ≤ U
up =
    bin_ind (λ T. (S U : ℕ) → bit_and S T ≡ S → bit_and S U ≡ S → T < U → bit_or (T + 1) S ≤ U)
    (λ S U p q l. omega (arith, or_add_and 1 S, and_zero_r S))
    (λ T ih S U p q l. turn T ih S U p q l (T % 2) refl)
  where
    turn : (T : ℕ) → ((S U : ℕ) → bit_and S (T / 2) ≡ S → bit_and S U ≡ S → T / 2 < U → bit_or (T / 2 + 1) S ≤ U)
        → (S U : ℕ) → bit_and S T ≡ S → bit_and S U ≡ S → T < U → (d : ℕ) → T % 2 ≡ d → bit_or (T + 1) S ≤ U
    turn T ih S U p q l zero e =
        let half : (T + 1) / 2 ≡ T / 2 = omega arith in
        omega (arith, rw half at (or_step (T + 1) S), and_step S T, or_add_and (T / 2) (S / 2), and_comm (T / 2) (S / 2))
    turn T ih S U p q l (suc d) e =
        let half : (T + 1) / 2 ≡ T / 2 + 1 = omega arith in
        omega (
          arith,
          rw half at (or_step (T + 1) S),
          and_step S U,
          ih (S / 2) (U / 2) (omega (arith, and_step S T)) (omega (arith, and_step S U)) (omega arith),
        )

down : (T S U : ℕ) → bit_and T S ≡ T → bit_and U S ≡ U → U < T → U ≤ bit_and (T - 1) S
down =
    bin_ind (λ T. (S U : ℕ) → bit_and T S ≡ T → bit_and U S ≡ U → U < T → U ≤ bit_and (T - 1) S)
    (λ S U p q l. absurd (omega arith))
    (λ T ih S U p q l. turn T ih S U p q l (T % 2) refl)
  where
    turn : (T : ℕ) → ((S U : ℕ) → bit_and (T / 2) S ≡ T / 2 → bit_and U S ≡ U → U < T / 2 → U ≤ bit_and (T / 2 - 1) S)
        → (S U : ℕ) → bit_and T S ≡ T → bit_and U S ≡ U → U < T → (d : ℕ) → T % 2 ≡ d → U ≤ bit_and (T - 1) S
    turn T ih S U p q l zero e =
        let half : (T - 1) / 2 ≡ T / 2 - 1 = omega arith in
        omega (
          arith,
          rw half at (and_step (T - 1) S),
          and_step U S,
          ih (S / 2) (U / 2) (omega (arith, and_step T S)) (omega (arith, and_step U S)) (omega arith),
        )
    turn T ih S U p q l (suc d) e =
        let half : (T - 1) / 2 ≡ T / 2 = omega arith in
        omega (arith, rw half at (and_step (T - 1) S), and_step T S)

-- The sets above S: after T the next one is T + 1 with the rules of S.
pub next_above : (S T U : ℕ) → S ⊑ T → S ⊑ U → T < U → bit_or (T + 1) S ≤ U
next_above S T U p q = up T S U (part_and p) (part_and q)

-- The sets below S: before T the next one is what T - 1 has in common with S.
pub next_below : (S T U : ℕ) → T ⊑ S → U ⊑ S → U < T → U ≤ bit_and (T - 1) S
next_below S T U p q = down T S U (part_and p) (part_and q)
