-- The rules that are needed, found by dropping each rule from the full set: of the rules that were tried those are left without which it is broken. From
-- the laws of sets and of MUST. Assumes nothing.
use Prim.Native.Nat.{ℕ, ◌+◌, ◌≤◌, ◌<◌}
use Rattle.std.proofs.Common.{◌≡◌, sym, ◌∙◌, arith}
use mathlib.Core.Logic.{◌↔◌}
use mathlib.Core.Bool.{Bool, true, false, true≢false}
use native.Mathlib.Decide.{ℕ_discrete}
use Rattle.sets.specs.Bit.{has, full}
use Rattle.sets.specs.Laws.Bit.{has_full}
use Rattle.sets.specs.Sets.{without}
use Rattle.sets.specs.Laws.Sets.{has_without}
use Rattle.sets.specs.Cores.{Monotone}
use Rattle.sets.specs.Lists.{must_of}
use Rattle.sets.proofs.Laws.MustRules.{must_needed}

-- Set M has the rules below R, but for those below i without which the full set still holds.
pub record Left (R : ℕ) (h : ℕ → Bool) (i M : ℕ) : Type 0 where
  pub each : (j : ℕ) → (has M j ≡ true) ↔ ((j < R) × (j < i → h (without (full R) j) ≡ false))

module _ (R : ℕ) (h : ℕ → Bool) where
  pub all_left : {M : ℕ} → M ≡ full R → Left R h 0 M
  all_left e =
      rw e
      (record { each = λ j. (λ m. ((has_full R j).0 m, λ l. absurd (omega arith)), λ p. (has_full R j).1 p.0) })

  module _ (i : ℕ) {M : ℕ} (f : Left R h i M) where
    pub spared : {N : ℕ} → N ≡ without M i → h (without (full R) i) ≡ true → Left R h (i + 1) N
    spared e t =
        rw e
        (record {
          each = λ j. (
            λ m.
                let w = (has_without M i j).0 m in
                let p = (f.each j).0 w.0 in
                (p.0, λ l. p.1 (omega (arith, w.1))),
            λ p.
                (has_without M i j).1
                ((f.each j).1 (p.0, λ l. p.1 (omega arith)), λ same. true≢false (sym t ∙ (rw same at (p.1 (omega arith))))),
          );
        })

    pub kept : h (without (full R) i) ≡ false → Left R h (i + 1) M
    kept n =
        record {
          each = λ j. (
            λ m. let p = (f.each j).0 m in (p.0, λ l. broken j p.1 l (ℕ_discrete j i)),
            λ p. (f.each j).1 (p.0, λ l. p.1 (omega arith)),
          );
        }
      where
        broken : (j : ℕ) → (j < i → h (without (full R) j) ≡ false) → j < i + 1 → Dec (j ≡ i) → h (without (full R) j) ≡ false
        broken j p l (yes same) = rw same n
        broken j p l (no other) = p (omega arith)

    pub is_must : Monotone R h → h (full R) ≡ true → R ≤ i → M ≡ must_of R h
    is_must mono e l =
        must_needed R h mono e M
        (λ j. (
          λ m. let p = (f.each j).0 m in record { below = p.0; broken = p.1 (omega (arith, p.0)) },
          λ n. (f.each j).1 (n.below, λ _. n.broken),
        ))
