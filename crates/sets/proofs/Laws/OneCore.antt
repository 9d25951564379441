-- By every order a monotone judgement that holds of the full set leaves a core, with one judgement for each rule and one more; and each core is left
-- by every order in which its rules stand last. From monotonicity: a rule that could not be dropped from a set cannot be dropped from a part of it.
use Prim.Native.Nat.{ℕ, zero, suc, ◌+◌, ◌^◌, ◌≤◌, ◌<◌}
use Rattle.std.specs.Prelude.{◌≡◌, get_or, Some, None, IfSome}
use Rattle.std.proofs.Math.Path.{refl, sym, ap}
use Rattle.std.proofs.Common.{◌∙◌}
use Rattle.std.proofs.Math.Bool.{Bool, true, false, cond, true≢false}
use mathlib.Core.List.{List, [], ◌∷◌}
use native.Mathlib.Omega.{arith}
use Rattle.std.proofs.Math.ListN.{length}
use Rattle.std.proofs.Math.Pow.{ones_lt}
use Rattle.sets.specs.declared.one_core.OneCore.{OneCore}
use Rattle.sets.specs.Bit.{has, full}
use Rattle.sets.specs.Sets.{◌⊑◌, without}
use Rattle.sets.specs.Cores.{Core, Monotone}
use Rattle.sets.specs.Orders.{IsOrder, StandLast}
use Rattle.sets.specs.OneCore.{unjudged, after_verdict, after_set, after_rule, after_order, one_core_of}
use Rattle.sets.specs.Laws.Bit.{has_below}
use Rattle.sets.specs.Laws.Sets.{part_refl, part_trans, part_full, part_le, has_without, without_part, without_le, without_more, without_above}
use Rattle.sets.specs.Laws.Choice.{by_test}
use Rattle.sets.specs.Laws.Cores.{false_if, least_whole}
use Rattle.sets.specs.Laws.Neighbours.{core_neighbours}
use Rattle.sets.specs.Laws.Orders.{stands_at}

-- ---- what is counted

-- A set that holds was found, or none was, after so many judgements.
found : ℕ → ℕ → OneCore
found S judgements = record { core = Some S; judgements = judgements }

none_found : ℕ → OneCore
none_found judgements = record { core = None; judgements = judgements }

module _ (h : ℕ → Bool) where
  -- S without a rule, if that holds; and without each rule of an order in turn.
  drop_one : ℕ → ℕ → ℕ
  drop_one S i = cond (h (without S i)) (without S i) S

  drop_each : ℕ → List ℕ → ℕ
  unfolding drop_one
  drop_each S [] = S
  drop_each S (i ∷ order) = drop_each (drop_one S i) order

  -- One judgement for each rule.
  rule_counts : (S n i : ℕ) → after_rule h (found S n) i ≡ found (drop_one S i) (n + 1)
  unfolding after_rule after_set after_verdict found drop_one
  rule_counts S n i = go (h (without S i))
    where
      go : (b : Bool) → record { core = cond b (Some (without S i)) (Some S); judgements = n + 1 } ≡ found (cond b (without S i) S) (n + 1)
      go true = refl
      go false = refl

  after_counts : (S n : ℕ) (order : List ℕ) → after_order h (found S n) order ≡ found (drop_each S order) (n + length order)
  unfolding after_order drop_each
  after_counts S n [] = ap (found S) (omega arith)
  after_counts S n (i ∷ order) =
      ap (λ c. after_order h c order) (rule_counts S n i)
      ∙ after_counts (drop_one S i) (n + 1) order ∙ ap (found (drop_each (drop_one S i) order)) (omega arith)

  -- From no set nothing is dropped, and nothing is judged.
  none_after : (n : ℕ) (order : List ℕ) → after_order h (none_found n) order ≡ none_found n
  unfolding after_order after_rule none_found
  none_after n [] = refl
  none_after n (i ∷ order) = none_after n order

  -- What the verdict on the full set decides.
  chosen : ℕ → List ℕ → Bool → OneCore
  chosen R order b = cond b (found (drop_each (full R) order) (1 + length order)) (none_found 1)

  by_verdict : (R : ℕ) (order : List ℕ) {b : Bool} → h (full R) ≡ b → one_core_of R h order ≡ chosen R order b
  unfolding one_core_of unjudged after_set after_verdict chosen found none_found
  by_verdict R order {b} e = ap (λ b. after_order h (record { core = cond b (Some (full R)) None; judgements = 1 }) order) e ∙ go b
    where
      go : (b : Bool) → after_order h (record { core = cond b (Some (full R)) None; judgements = 1 }) order ≡ chosen R order b
      go true = after_counts (full R) 1 order
      go false = none_after 1 order

-- ---- what is left

module _ (R : ℕ) (h : ℕ → Bool) (mono : Monotone R h) where
  -- Of S the set T is left once each rule of the order was tried: T holds, and is broken without any of these rules that it still has.
  record Left (S : ℕ) (order : List ℕ) (T : ℕ) : Type 0 where
    within : T ⊑ S
    holds : h T ≡ true
    needed : (k : ℕ) → k < length order → has T (get_or order k 0) ≡ true → h (without T (get_or order k 0)) ≡ false

  -- One more rule was tried first: it was dropped from S,
  left_dropped : {S i T : ℕ} {order : List ℕ} → Left (without S i) order T → Left S (i ∷ order) T
  left_dropped {S} {i} {T} {order} f = record {
    within = part_trans f.within (without_part S i);
    holds = f.holds;
    needed = λ k. at k;
  }
    where
      at : (k : ℕ) → k < length (i ∷ order) → has T (get_or (i ∷ order) k 0) ≡ true → h (without T (get_or (i ∷ order) k 0)) ≡ false
      at zero l e = absurd (((has_without S i i).0 (f.within.every i e)).1 refl)
      at (suc k) l e = f.needed k (omega arith) e

  -- or it stays, since S without it is broken.
  left_kept : {S i T : ℕ} {order : List ℕ} → S < 2 ^ R → h (without S i) ≡ false → Left S order T → Left S (i ∷ order) T
  left_kept {S} {i} {T} {order} l b f = record { within = f.within; holds = f.holds; needed = λ k. at k }
    where
      at : (k : ℕ) → k < length (i ∷ order) → has T (get_or (i ∷ order) k 0) ≡ true → h (without T (get_or (i ∷ order) k 0)) ≡ false
      at zero _ e =
          false_if (h (without T i))
          (λ t. true≢false (sym (mono.more (without T i) (without S i) (omega (arith, without_le S i)) (without_more i f.within) t) ∙ b))
      at (suc k) l e = f.needed k (omega arith) e

  left : (S : ℕ) (order : List ℕ) → S < 2 ^ R → h S ≡ true → Left S order (drop_each h S order)
  unfolding drop_each drop_one
  left S [] l e = record { within = part_refl S; holds = e; needed = λ k g. absurd (omega arith) }
  left S (i ∷ order) l e =
      by_test (λ (T : ℕ). Left S (i ∷ order) (drop_each h T order)) (h (without S i))
      (λ t. left_dropped (left (without S i) order (omega (arith, without_le S i)) t))
      (λ f. left_kept l f (left S order l e))

  -- Where each of the R rules was tried, that is a core.
  left_core : {order : List ℕ} {T : ℕ} → IsOrder R order → Left (full R) order T → Core h T
  left_core {order} {T} o f =
      (core_neighbours R h mono T (omega (arith, part_le f.within, ones_lt R))).1 (
        f.holds,
        λ i l e.
            let at = stands_at i order (omega (arith, o.once i l)) in
            rw at.2 at (f.needed at.0 at.1 (rw at.2 e)),
      )

  -- what is left of the full set by an order
  left_by : List ℕ → ℕ
  left_by order = drop_each h (full R) order

  is_left : h (full R) ≡ true → (order : List ℕ) → Left (full R) order (left_by order)
  unfolding left_by
  is_left e order = left (full R) order (ones_lt R) e

  is_found : h (full R) ≡ true → (order : List ℕ) → IsOrder R order → one_core_of R h order ≡ record { core = Some (left_by order); judgements = R + 1 }
  unfolding left_by chosen found
  is_found e order o = by_verdict h R order e ∙ ap (found (left_by order)) (omega (arith, o.size))

  pub one_core_held : h (full R) ≡ true → (order : List ℕ) → IsOrder R order
      → (C : ℕ) × (C < 2 ^ R) × Core h C × (one_core_of R h order ≡ record { core = Some C; judgements = R + 1 })
  one_core_held e order o =
      let f = is_left e order in
      (left_by order, omega (arith, part_le f.within, ones_lt R), left_core o f, is_found e order o)

  -- ---- the order for a core

  module _ (C : ℕ) (l : C < 2 ^ R) (core : Core h C) where
    held : h C ≡ true
    unfolding Core
    held = core.itself

    -- While no rule of the core has been tried, each rule is dropped:
    rest_held : {S : ℕ} (i : ℕ) → S < 2 ^ R → C ⊑ S → has C i ≡ false → h (without S i) ≡ true
    rest_held {S} i below p n = mono.more C (without S i) (omega (arith, without_le S i)) (without_above i p n) held

    drops : (S i : ℕ) → S < 2 ^ R → C ⊑ S → has C i ≡ false → drop_one h S i ≡ without S i
    unfolding drop_one
    drops S i below p n = ap (λ b. cond b (without S i) S) (rest_held i below p n)

    -- so no rule outside it is left.
    none_outside : (order : List ℕ) → StandLast C order → (S : ℕ) → S < 2 ^ R → C ⊑ S
        → (k : ℕ) → k < length order → has C (get_or order k 0) ≡ false → ¬ (has (drop_each h S order) (get_or order k 0) ≡ true)
    unfolding drop_each
    none_outside [] last S below p k g n m = omega arith
    none_outside (i ∷ order) last S below p zero g n m =
        let d = drops S i below p n in
        let rest = left (drop_one h S i) order (rw d (omega (arith, without_le S i))) (rw d (rest_held i below p n)) in
        ((has_without S i i).0 (rw d at (rest.within.every i m))).1 refl
    none_outside (i ∷ order) last S below p (suc k) g n m =
        let first : has C i ≡ false = false_if (has C i) (λ t. true≢false (sym (last.behind 0 (suc k) (omega arith) g t) ∙ n)) in
        let d = drops S i below p first in
        none_outside order (record { behind = λ j m l b. last.behind (suc j) (suc m) (omega arith) (omega arith) }) (drop_one h S i)
        (rw d (omega (arith, without_le S i))) (rw d (without_above i p first)) k (omega arith) n m

    full_held : h (full R) ≡ true
    full_held = mono.more C (full R) (ones_lt R) (part_full R C l) held

    -- Then what is left is a part of the core that holds, and so all of it.
    left_of_core : (order : List ℕ) → IsOrder R order → StandLast C order → left_by order ≡ C
    unfolding left_by Core
    left_of_core order o last =
        let f = is_left full_held order in
        least_whole core (record { every = λ i e. inside i e (has C i) refl }) f.holds
      where
        inside : (i : ℕ) → has (left_by order) i ≡ true → (b : Bool) → has C i ≡ b → b ≡ true
        inside i e true q = refl
        inside i e false q =
            let f = is_left full_held order in
            let at = stands_at i order (omega (arith, o.once i (has_below R (left_by order) i (omega (arith, part_le f.within, ones_lt R)) e))) in
            absurd (none_outside order last (full R) (ones_lt R) (part_full R C l) at.0 at.1 (rw at.2 q) (rw at.2 e))

    pub one_core_found : (order : List ℕ) → IsOrder R order → StandLast C order → one_core_of R h order ≡ record { core = Some C; judgements = R + 1 }
    unfolding found
    one_core_found order o last = is_found full_held order o ∙ ap (λ (S : ℕ). found S (R + 1)) (left_of_core order o last)

pub one_core_broken : (R : ℕ) (h : ℕ → Bool) → h (full R) ≡ false → (order : List ℕ) → one_core_of R h order ≡ record { core = None; judgements = 1 }
unfolding chosen none_found
one_core_broken R h e order = by_verdict h R order e

-- ---- how large it can be

module _ (R : ℕ) (h : ℕ → Bool) where
  left_below : (S : ℕ) (order : List ℕ) → S < 2 ^ R → drop_each h S order < 2 ^ R
  unfolding drop_each drop_one
  left_below S [] l = l
  left_below S (i ∷ order) l =
      left_below (drop_one h S i) order (by_test (λ (T : ℕ). T < 2 ^ R) (h (without S i)) (λ _. omega (arith, without_le S i)) (λ _. l))

  pub one_core_size : (order : List ℕ) → IfSome (one_core_of R h order).core (λ C. C < 2 ^ R) × ((one_core_of R h order).judgements ≤ 1 + length order)
  unfolding chosen found none_found
  one_core_size order = go (h (full R)) refl
    where
      go : (b : Bool) → h (full R) ≡ b → IfSome (one_core_of R h order).core (λ C. C < 2 ^ R) × ((one_core_of R h order).judgements ≤ 1 + length order)
      go true e = rw (by_verdict h R order e) (left_below (full R) order (ones_lt R), omega arith)
      go false e = rw (by_verdict h R order e) (tt, omega arith)

-- ---- judgements that agree on the sets of R rules

module _ (R : ℕ) (g h : ℕ → Bool) (same : (S : ℕ) → S < 2 ^ R → g S ≡ h S) where
  left_agree : (S : ℕ) (order : List ℕ) → S < 2 ^ R → drop_each g S order ≡ drop_each h S order
  unfolding drop_each drop_one
  left_agree S [] l = refl
  left_agree S (i ∷ order) l =
      ap (λ b. drop_each g (cond b (without S i) S) order) (same (without S i) (omega (arith, without_le S i)))
      ∙ left_agree (drop_one h S i) order (by_test (λ (T : ℕ). T < 2 ^ R) (h (without S i)) (λ _. omega (arith, without_le S i)) (λ _. l))

  pub one_core_agree : (order : List ℕ) → one_core_of R g order ≡ one_core_of R h order
  unfolding chosen
  one_core_agree order =
      by_verdict g R order (same (full R) (ones_lt R))
      ∙ ap (λ (S : ℕ). cond (h (full R)) (found S (1 + length order)) (none_found 1)) (left_agree (full R) order (ones_lt R))
      ∙ sym (by_verdict h R order refl)
