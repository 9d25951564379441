-- The test for an order is true exactly of an order; as many bytes as there are rules are an order exactly when each of them is a place of a rule and
-- every place stands there; and the rules outside a set first, then the others, are an order. By counting the bytes that are below a bound.
use Rattle.std.specs.Prelude.{ℕ, zero, suc, ◌+◌, ◌-◌, ◌≤◌, ◌<◌, ◌≡◌, refl, ◌↔◌, Bool, true, false, not, ◌&&◌, List, [], ◌∷◌, ◌++◌, eqb, ltb, length, get_or}
use Rattle.std.proofs.Common.{sym, ap, ap₂, ◌∙◌, true≢false, arith, below_more, eqb-true, eq-eqb, ne_eqb, ltb-true, lt-ltb, le-ltb, length-append, get_or-append-add}
use Rattle.std.proofs.Math.Bool.{and-eq-true_iff}
use Rattle.std.proofs.Math.Decide.{ℕ_discrete, dec_lt}
use Rattle.std.proofs.lemmas.Bool.{not-true, not-false}
use Rattle.std.proofs.Math.ListN.{get_or-append}
use Rattle.sets.specs.Bit.{has}
use Rattle.sets.specs.Gathered.{one}
use Rattle.sets.specs.Laws.Gathered.{one_lt}
use Rattle.sets.specs.Lists.{joined, one_if, select}
use Rattle.sets.specs.Cores.{none_below}
use Rattle.sets.specs.Laws.Cores.{none_below_iff, false_if}
use Rattle.sets.specs.Laws.Listed.{at_place, mem_select}
use Rattle.sets.specs.Orders.{times_in, IsOrder, is_order, StandLast, outside_first}

-- ---- the test

pub is_order_iff : (R : ℕ) (order : List ℕ) → (is_order R order ≡ true) ↔ IsOrder R order
unfolding is_order
is_order_iff R order = (
  λ e.
      let both = (and-eq-true_iff (eqb (length order) R) (none_below other R)).0 e in
      record {
        size = eqb-true (length order) R both.0;
        once = λ i l. eqb-true (times_in i order) 1 (not-false _ (false_if (other i) ((none_below_iff other R).0 both.1 i l)));
      },
  λ o.
      (and-eq-true_iff (eqb (length order) R) (none_below other R)).1 (
        eq-eqb (length order) R o.size,
        (none_below_iff other R).1 (λ i l m. true≢false (sym m ∙ ap not (eq-eqb (times_in i order) 1 (o.once i l)))),
      ),
)
  where
    other : ℕ → Bool
    other i = not (eqb (times_in i order) 1)

pub order_or_not : (R : ℕ) (order : List ℕ) → Dec (IsOrder R order)
order_or_not R order = go (is_order R order) refl
  where
    go : (b : Bool) → is_order R order ≡ b → Dec (IsOrder R order)
    go true e = yes ((is_order_iff R order).0 e)
    go false e = no (λ o. true≢false (sym ((is_order_iff R order).1 o) ∙ e))

-- ---- how many bytes are below a bound

-- How many entries of a list are below n.
entries_below : ℕ → List ℕ → ℕ
entries_below n [] = 0
entries_below n (place ∷ rest) = one (ltb place n) + entries_below n rest

entries_le : (n : ℕ) (l : List ℕ) → entries_below n l ≤ length l
unfolding entries_below
entries_le n [] = omega arith
entries_le n (place ∷ rest) = omega (arith, entries_le n rest, one_lt (ltb place n))

-- Where all are, each is.
all_below : (n : ℕ) (l : List ℕ) → length l ≤ entries_below n l → (k : ℕ) → k < length l → get_or l k 0 < n
unfolding entries_below one
all_below n [] h k g = absurd (omega arith)
all_below n (place ∷ rest) h zero g = ltb-true place n (told (ltb place n) (omega (arith, entries_le n rest)))
  where
    told : (b : Bool) → 1 ≤ one b → b ≡ true
    told true l = refl
    told false l = absurd (omega arith)
all_below n (place ∷ rest) h (suc k) g = all_below n rest (omega (arith, one_lt (ltb place n))) k (omega arith)

-- Below the next bound is also the bound itself.
next_bound : (place n : ℕ) → one (ltb place (suc n)) ≡ one (ltb place n) + one (eqb place n)
unfolding one
next_bound place n = go (dec_lt place n) (ℕ_discrete place n)
  where
    go : Dec (place < n) → Dec (place ≡ n) → one (ltb place (suc n)) ≡ one (ltb place n) + one (eqb place n)
    go (yes l) _ = rw (lt-ltb place (suc n) (omega arith), lt-ltb place n l, ne_eqb place n (λ e. omega arith)) refl
    go (no g) (yes e) = rw (lt-ltb place (suc n) (omega arith), le-ltb place n (omega arith), eq-eqb place n e) refl
    go (no g) (no e) = rw (le-ltb place (suc n) (omega arith), le-ltb place n (omega arith), ne_eqb place n e) refl

entries_next : (n : ℕ) (l : List ℕ) → entries_below (suc n) l ≡ entries_below n l + times_in n l
unfolding entries_below times_in
entries_next n [] = refl
entries_next n (place ∷ rest) = omega (arith, entries_next n rest, next_bound place n)

entries_none : (l : List ℕ) → entries_below 0 l ≡ 0
unfolding entries_below one
entries_none [] = refl
entries_none (place ∷ rest) = omega (arith, entries_none rest, ap one (le-ltb place 0 (omega arith)))

-- ---- every place stands there

module _ (l : List ℕ) where
  -- Where each place below n stands there, n entries or more are below n;
  entries_each : (n : ℕ) → ((i : ℕ) → i < n → 1 ≤ times_in i l) → n ≤ entries_below n l
  entries_each zero each = omega arith
  entries_each (suc n) each = omega (arith, entries_each n (λ i h. each i (omega arith)), each n (omega arith), entries_next n l)

  -- where each stands there once, n;
  entries_once : (n : ℕ) → ((i : ℕ) → i < n → times_in i l ≡ 1) → entries_below n l ≡ n
  entries_once zero once = entries_none l
  entries_once (suc n) once = omega (arith, entries_once n (λ i h. once i (omega arith)), once n (omega arith), entries_next n l)

  -- and where no more are, each stands there once.
  each_once : (n : ℕ) → ((i : ℕ) → i < n → 1 ≤ times_in i l) → entries_below n l ≤ n → (i : ℕ) → i < n → times_in i l ≡ 1
  each_once zero each few i h = absurd (omega arith)
  each_once (suc n) each few i h =
      let most : n ≤ entries_below n l = entries_each n (λ j g. each j (omega arith)) in
      let last : 1 ≤ times_in n l = each n (omega arith) in
      below_more (λ (j : ℕ). times_in j l ≡ 1) n
      (each_once n (λ j g. each j (omega arith)) (omega (arith, entries_next n l)))
      (omega (arith, entries_next n l))
      i (omega arith)

-- As many bytes as there are rules, every place among them: they are an order.
pub is_order_lem : (R : ℕ) (order : List ℕ) → length order ≡ R → ((i : ℕ) → i < R → 1 ≤ times_in i order) → IsOrder R order
is_order_lem R order e each = record { size = e; once = each_once order R each (omega (arith, entries_le R order)) }

-- Each byte of an order is the place of a rule.
pub order_below : {R : ℕ} {order : List ℕ} → IsOrder R order → (k : ℕ) → k < R → get_or order k 0 < R
order_below {R} {order} o k h = all_below R order (omega (arith, o.size, entries_once order R o.once)) k (omega (arith, o.size))

-- ---- a place that stands there stands somewhere

pub stands_at : (i : ℕ) (l : List ℕ) → 1 ≤ times_in i l → (k : ℕ) × (k < length l) × (get_or l k 0 ≡ i)
unfolding times_in one
stands_at i [] h = absurd (omega arith)
stands_at i (place ∷ rest) h = go (ℕ_discrete place i) (stands_at i rest)
  where
    go : Dec (place ≡ i) → (1 ≤ times_in i rest → (k : ℕ) × (k < length rest) × (get_or rest k 0 ≡ i))
        → (k : ℕ) × (k < length (place ∷ rest)) × (get_or (place ∷ rest) k 0 ≡ i)
    go (yes e) later = (0, omega arith, e)
    go (no e) later = let r = later (omega (arith, ap one (ne_eqb place i e))) in (suc r.0, omega (arith, r.1), r.2)

-- ---- the rules outside a set first

pub times_append : (i : ℕ) (l m : List ℕ) → times_in i (l ++ m) ≡ times_in i l + times_in i m
unfolding times_in
times_append i [] m = omega arith
times_append i (place ∷ l) m = omega (arith, times_append i l m)

-- A number below n stands among those that pass the test once, if it passes; no other does.
times_select : (q : ℕ → Bool) (n i : ℕ) → times_in i (select q n) ≡ one (ltb i n && q i)
unfolding select joined times_in one_if one
times_select q zero i = rw (le-ltb i 0 (omega arith)) refl
times_select q (suc n) i = times_append i (select q n) (one_if (q n) n) ∙ rw (times_select q n i) (go (dec_lt i n) (ℕ_discrete n i))
  where
    last : (b : Bool) → times_in i (one_if b n) ≡ one (b && eqb n i)
    last true = omega arith
    last false = refl

    itself : (b : Bool) → one (b && true) ≡ one b
    itself true = refl
    itself false = refl

    neither : (b : Bool) → one (b && false) ≡ 0
    neither true = refl
    neither false = refl

    go : Dec (i < n) → Dec (n ≡ i) → one (ltb i n && q i) + times_in i (one_if (q n) n) ≡ one (ltb i (suc n) && q i)
    go (yes l) _ =
        rw (lt-ltb i n l, lt-ltb i (suc n) (omega arith))
        (omega (arith, last (q n), ap (λ b. one (q n && b)) (ne_eqb n i (λ e. omega arith)), neither (q n)))
    go (no g) (yes e) =
        rw (le-ltb i n (omega arith), lt-ltb i (suc n) (omega arith))
        (omega (arith, last (q n), ap (λ b. one (q n && b)) (eq-eqb n i e), itself (q n), ap (λ k. one (q k)) e))
    go (no g) (no e) =
        rw (le-ltb i n (omega arith), le-ltb i (suc n) (omega arith))
        (omega (arith, last (q n), ap (λ b. one (q n && b)) (ne_eqb n i e), neither (q n)))

length_both : (q : ℕ → Bool) (n : ℕ) → length (select (λ i. not (q i)) n) + length (select q n) ≡ n
unfolding select joined one_if
length_both q zero = refl
length_both q (suc n) =
    omega (
      arith,
      length_both q n,
      length-append (select (λ i. not (q i)) n) (one_if (not (q n)) n),
      length-append (select q n) (one_if (q n) n),
      one_of (q n),
    )
  where
    one_of : (b : Bool) → length (one_if (not b) n) + length (one_if b n) ≡ 1
    one_of true = refl
    one_of false = refl

pub outside_first_lem : (R S : ℕ) → IsOrder R (outside_first R S)
unfolding outside_first one
outside_first_lem R S = record {
  size = length-append (select (λ i. not (has S i)) R) (select (has S) R) ∙ length_both (has S) R;
  once = λ i h.
      times_append i (select (λ j. not (has S j)) R) (select (has S) R)
      ∙ ap₂ (λ (a b : ℕ). a + b) (times_select (λ j. not (has S j)) R i) (times_select (has S) R i)
      ∙ rw (lt-ltb i R h) (either (has S i));
}
  where
    either : (b : Bool) → one (true && not b) + one (true && b) ≡ 1
    either true = refl
    either false = refl

-- ---- and those of the set last

-- What stands among the numbers that pass a test passes it.
passes : (q : ℕ → Bool) (n k : ℕ) → k < length (select q n) → q (get_or (select q n) k 0) ≡ true
passes q n k h = ((mem_select q n (get_or (select q n) k 0)).0 (at_place (select q n) k h)).1

pub outside_first_last : (R S : ℕ) → StandLast S (outside_first R S)
unfolding outside_first
outside_first_last R S = record { behind = λ j k l h e. by_place j k l h e (dec_lt k (length first)) }
  where
    first : List ℕ
    first = select (λ i. not (has S i)) R

    then : List ℕ
    then = select (has S) R

    by_place : (j k : ℕ) → j < k → k < length (first ++ then) → has S (get_or (first ++ then) j 0) ≡ true → Dec (k < length first)
        → has S (get_or (first ++ then) k 0) ≡ true
    by_place j k l h e (yes g) =
        let outside = passes (λ i. not (has S i)) R j (omega arith) in
        absurd (true≢false (sym (rw (get_or-append first then 0 j (omega arith)) at e) ∙ not-true (has S (get_or first j 0)) outside))
    by_place j k l h e (no g) =
        let place : k ≡ length first + (k - length first) = omega arith in
        ap (λ (n : ℕ). has S (get_or (first ++ then) n 0)) place
        ∙ ap (has S) (get_or-append-add first then (k - length first) 0)
        ∙ passes (has S) R (k - length first) (omega (arith, length-append first then))
