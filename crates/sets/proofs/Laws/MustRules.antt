-- MUST by one verdict for each rule: where the full set holds, a rule is in MUST exactly if the full set without it is broken.
-- From every set that holds containing a core, and from monotonicity: a core without the rule is a part of the full set without it.
use Rattle.std.specs.Prelude.{ℕ, ◌^◌, ◌<◌, ◌≡◌, refl, ◌↔◌, Bool}
use Rattle.std.proofs.Common.{sym, ◌∙◌, true≢false, arith}
use Rattle.std.proofs.Math.Bool.{true, false}
use mathlib.Mathlib.Data.Bool.Basic.{eq-true_of_not-eq-false}
use Rattle.std.proofs.Math.Pow.{ones_lt}
use Rattle.sets.specs.Bit.{has, full}
use Rattle.sets.specs.Laws.Bit.{has_below}
use Rattle.sets.specs.Sets.{◌⊑◌, without}
use Rattle.sets.specs.Laws.Sets.{part_le, part_antisym, part_full, without_le, has_without}
use Rattle.sets.specs.Cores.{Core, Monotone}
use Rattle.sets.specs.Laws.Cores.{false_if}
use Rattle.sets.specs.Lists.{must_of}
use Rattle.sets.proofs.Laws.Must.{must_iff}
use Rattle.sets.proofs.Laws.Duality.{duality}

-- The full set without rule i is broken.
pub record Needed (R : ℕ) (h : ℕ → Bool) (i : ℕ) : Type 0 where
  pub below : i < R
  pub broken : h (without (full R) i) ≡ false

module _ (R : ℕ) (h : ℕ → Bool) (mono : Monotone R h) where
  lacking : (S i : ℕ) → S < 2 ^ R → has S i ≡ false → S ⊑ without (full R) i
  lacking S i l n =
      record {
        every = λ j e.
            (has_without (full R) i j).1
            ((part_full R S l).every j e, λ same. true≢false (sym (rw same at e) ∙ n));
      }

  without_below : (i : ℕ) → without (full R) i < 2 ^ R
  without_below i = omega (arith, without_le (full R) i, ones_lt R)

  -- A rule is in MUST exactly if the full set holds, and without the rule is broken.
  pub must_rules : (i : ℕ) → (has (must_of R h) i ≡ true) ↔ ((h (full R) ≡ true) × Needed R h i)
  unfolding Core
  must_rules i = (
    λ e.
        let m = (must_iff R h i).0 e in
        let c = m.a_core in (
          mono.more c.0 (full R) (ones_lt R) (part_full R c.0 c.1) c.2.itself,
          record {
            below = has_below R c.0 i c.1 (m.in_every c.0 c.1 c.2);
            broken = false_if (h (without (full R) i))
                (λ t.
                let d = (duality R h mono).contains (without (full R) i) t in
                ((has_without (full R) i i).0
                (d.1.every i (m.in_every d.0 (omega (arith, part_le d.1, without_below i)) d.2))).1 refl);
          },
        ),
    λ p. ((duality R h mono).every_core p.0 i).1 (λ C l c. in_core p.1 C l c (has C i) refl),
  )
    where
      in_core : Needed R h i → (C : ℕ) → C < 2 ^ R → Core h C → (b : Bool) → has C i ≡ b → has C i ≡ true
      in_core n C l c true e = e
      in_core n C l c false e =
          absurd (true≢false
          (sym (mono.more C (without (full R) i) (without_below i) (lacking C i l e) c.itself) ∙ n.broken))

  -- Where the full set holds, it holds without a rule outside MUST.
  pub spared : h (full R) ≡ true → (i : ℕ) → i < R → has (must_of R h) i ≡ false → h (without (full R) i) ≡ true
  spared all i l n =
      eq-true_of_not-eq-false (λ q. true≢false (sym ((must_rules i).1 (all, record { below = l; broken = q })) ∙ n))

  -- Where the full set holds, a set that has exactly the needed rules is MUST.
  pub must_needed : h (full R) ≡ true → (M : ℕ) → ((i : ℕ) → (has M i ≡ true) ↔ Needed R h i) → M ≡ must_of R h
  must_needed e M n =
      part_antisym (record { every = λ i m. (must_rules i).1 (e, (n i).0 m) })
      (record { every = λ i m. (n i).1 ((must_rules i).0 m).1 })
