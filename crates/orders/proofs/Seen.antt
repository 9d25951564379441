-- Which places stand among the first bytes: where as many bytes as rules are places, each place stands once exactly when all were seen. From the laws of
-- orders and of sets. Assumes nothing.
use Prim.Native.Nat.{ℕ, suc, ◌+◌, ◌^◌, ◌≤◌, ◌<◌}
use mathlib.Core.Path.{◌≡◌, sym, ap, ◌∙◌}
use mathlib.Core.Logic.{◌↔◌, ◌⊎◌, inl, inr, ⊎_elim}
use mathlib.Core.Bool.{true, false}
use mathlib.Core.List.{List, [], ◌∷◌}
use native.Mathlib.Decide.{ℕ_discrete}
use native.Mathlib.Omega.{arith}
use borrow.Author.Tests.{eqb-true, eq-eqb, ne_eqb}
use lib.Dec.{eqb}
use lib.ListN.{length, get_or, take}
use lib.Pow.{pow_pos}
use lib.Seq.{take-suc, take_all}
use Rattle.sets.specs.Bit.{has, full}
use Rattle.sets.specs.Gathered.{one}
use Rattle.sets.specs.Sets.{with}
use Rattle.sets.specs.Orders.{times_in, IsOrder, is_order}
use Rattle.sets.specs.Laws.Bit.{has_zero, has_full, has_le}
use Rattle.sets.specs.Laws.Sets.{has_with, with_below}
use Rattle.sets.specs.Laws.Choice.{alike}
use Rattle.sets.specs.Laws.Cores.{false_if}
use Rattle.sets.specs.Laws.Orders.{is_order_iff, is_order_lem, order_below, times_append}

pub record Seen (R : ℕ) (order : List ℕ) (k seen : ℕ) : Type 0 where
  pub below : seen < 2 ^ R
  pub each : (i : ℕ) → (has seen i ≡ true) ↔ (1 ≤ times_in i (take k order))

module _ (R : ℕ) (order : List ℕ) where
  pub none_seen : {seen : ℕ} → seen ≡ 0 → Seen R order 0 seen
  unfolding times_in
  none_seen e = rw e (record { below = pow_pos R; each = λ i. (λ m. absurd (has_zero i m), λ l. absurd (omega arith)) })

  -- the next byte, and how often a place stands among one byte more
  times_next : (k i : ℕ) → k < length order → times_in i (take (k + 1) order) ≡ times_in i (take k order) + one (eqb (get_or order k 0) i)
  unfolding times_in
  times_next k i l =
      let next : k + 1 ≡ suc k = omega arith in
      ap (λ (n : ℕ). times_in i (take n order)) next ∙ ap (times_in i) (take-suc order k 0 l)
      ∙ times_append i (take k order) (get_or order k 0 ∷ []) ∙ omega arith

  pub one_seen : (k : ℕ) {seen next : ℕ} → k < length order → get_or order k 0 < R → next ≡ with seen (get_or order k 0) → Seen R order k seen
      → Seen R order (k + 1) next
  unfolding one
  one_seen k {seen} l b e f = rw e (record {
    below = with_below R seen (get_or order k 0) f.below b;
    each = λ i. (
      λ m.
          ⊎_elim
          (λ before. omega (arith, (f.each i).0 before, times_next k i l))
          (λ same. omega (arith, times_next k i l, ap one (eq-eqb (get_or order k 0) i (sym same))))
          ((has_with seen (get_or order k 0) i).0 m),
      λ n. (has_with seen (get_or order k 0) i).1 (told i n (ℕ_discrete i (get_or order k 0))),
    );
  })
    where
      told : (i : ℕ) → 1 ≤ times_in i (take (k + 1) order) → Dec (i ≡ get_or order k 0) → (has seen i ≡ true) ⊎ (i ≡ get_or order k 0)
      told i n (yes same) = inr same
      told i n (no other) =
          inl ((f.each i).1 (omega (arith, times_next k i l, ap one (ne_eqb (get_or order k 0) i (λ e. other (sym e))))))

  module _ (size : length order ≡ R) where
    -- where all bytes are seen, they are an order exactly when the full set was seen
    pub all_seen : {k seen all : ℕ} → R ≤ k → all ≡ full R → Seen R order k seen → eqb seen all ≡ is_order R order
    all_seen {k} {seen} {all} l a f = rw a (alike (eqb seen (full R)) (is_order R order)
        (λ e. (is_order_iff R order).1 (is_order_lem R order size (λ i b. (whole i).0 (rw (eqb-true seen (full R) e) ((has_full R i).1 b)))))
        (λ t. eq-eqb seen (full R) (is_full ((is_order_iff R order).0 t))))
      where
        whole : (i : ℕ) → (has seen i ≡ true) ↔ (1 ≤ times_in i order)
        whole i = rw (take_all k order (omega (arith, size))) at (f.each i)

        is_full : IsOrder R order → seen ≡ full R
        is_full o = omega (arith, f.below, has_le (full R) seen (λ i m. (whole i).1 (omega (arith, o.once i ((has_full R i).0 m)))))

    pub beyond : (k : ℕ) → k < R → R ≤ get_or order k 0 → false ≡ is_order R order
    beyond k l b = sym (false_if (is_order R order) (λ t. omega (arith, order_below ((is_order_iff R order).0 t) k l)))

  pub other_size : ¬ (length order ≡ R) → false ≡ is_order R order
  other_size n = sym (false_if (is_order R order) (λ t. n ((is_order_iff R order).0 t).size))
