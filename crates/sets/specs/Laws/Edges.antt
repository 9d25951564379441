-- The edges of a monotone judgement: the full set is broken, or set 0 holds.
-- From the lists having exactly the cores and the cuts.
use Rattle.std.specs.Prelude.{ℕ, ◌-◌, ◌≡◌, refl, Bool, true, false, List, [], ◌∷◌}
use Rattle.std.proofs.Common.{sym, ap, ◌∙◌, true≢false, arith, pow_pos}
use mathlib.Core.List.Memᴰ
use Rattle.std.proofs.Math.Nat.{sub-zero}
use Rattle.std.proofs.Math.Pow.{ones_lt}
use Rattle.sets.specs.Bit.{full}
use Rattle.sets.specs.Laws.Sets.{part_zero, part_full}
use Rattle.sets.specs.Cores.{Core, Cut, Monotone}
use Rattle.sets.specs.Laws.Cores.{least_zero, zero_least}
use Rattle.sets.specs.Demand3.{Lists, Among, FullBroken, EmptyHolds}
use Rattle.sets.specs.Lists.{cores_of, cuts_of, common, must_of}
use Rattle.sets.specs.Laws.Listed.{cores_of_lists, cuts_of_lists}

lists_none : (l : List ℕ) (P : ℕ → Type 0) → Lists l P → ((S : ℕ) → ¬ P S) → l ≡ []
lists_none [] P k n = refl
lists_none (S ∷ l) P k n = absurd (n S (k.only S (Memᴰ.head refl)))

lists_one : (l : List ℕ) (P : ℕ → Type 0) (S : ℕ) → Lists l P → P S → ((T : ℕ) → P T → T ≡ S) → l ≡ S ∷ []
lists_one [] P S k p n = absurd (Memᴰ.not-nil (k.each S p))
lists_one (T ∷ []) P S k p n = ap (λ (U : ℕ). U ∷ []) (n T (k.only T (Memᴰ.head refl)))
lists_one (T ∷ U ∷ l) P S k p n =
    absurd (omega (
      arith,
      k.once 0 1 (omega arith) (omega arith)
          (n T (k.only T (Memᴰ.head refl)) ∙ sym (n U (k.only U (Memᴰ.tail (Memᴰ.head refl))))),
    ))

pub full_broken : (R : ℕ) (h : ℕ → Bool) → Monotone R h → h (full R) ≡ false → FullBroken (cores_of R h) (cuts_of R h) (must_of R h)
unfolding Core Cut must_of
full_broken R h m e =
    record {
      no_core = no_core;
      one_cut =
          lists_one (cuts_of R h) (Among R (Cut R h)) 0 (cuts_of_lists R h)
          (record { rules = pow_pos R; itself = least_zero breaking nothing }) (λ S p. zero_least breaking S nothing p.itself);
      no_must = ap common no_core;
    }
  where
    breaking : ℕ → Type 0
    breaking S = h (full R - S) ≡ false

    nothing : breaking 0
    nothing = rw sub-zero e

    no_core : cores_of R h ≡ []
    no_core = lists_none (cores_of R h) (Among R (Core h)) (cores_of_lists R h)
        (λ S p. true≢false (sym (m.more S (full R) (ones_lt R) (part_full R S p.rules) p.itself.itself) ∙ e))

pub empty_holds : (R : ℕ) (h : ℕ → Bool) → Monotone R h → h 0 ≡ true → EmptyHolds (cores_of R h) (cuts_of R h)
unfolding Core Cut
empty_holds R h m e =
    record {
      one_core =
          lists_one (cores_of R h) (Among R (Core h)) 0 (cores_of_lists R h)
          (record { rules = pow_pos R; itself = least_zero (λ S. h S ≡ true) e }) (λ S p. zero_least (λ S. h S ≡ true) S e p.itself);
      no_cut = lists_none (cuts_of R h) (Among R (Cut R h)) (cuts_of_lists R h)
          (λ S p. true≢false (sym (m.more 0 (full R - S) (omega (arith, pow_pos R)) (part_zero (full R - S)) e) ∙ p.itself.itself));
    }
