-- A list of sets has what it should: each set that passes its test exactly once, nothing else, in the order of the lists.
-- Membership and the order are shown for lists that are joined one after the other, and then of the numbers that pass and of the sizes.
use Rattle.std.specs.Prelude.{ℕ, zero, suc, ◌^◌, ◌<◌, ◌≡◌, refl, ◌↔◌, Bool, true, false, List, [], ◌∷◌, ◌++◌, eqb, length, get_or}
use Rattle.std.proofs.Common.{sym, ap, ◌∙◌, ⊎_elim, arith, eq-or-lt_of_le, le_of_suc-le-suc, eqb-true, eq-eqb}
use Rattle.std.proofs.lemmas.Bool.{false≢true}
use Rattle.std.proofs.Math.Bool.{and-eq-true_iff}
use mathlib.Core.List.Memᴰ
use Rattle.std.specs.Int.Count.{ones}
use Rattle.std.proofs.lemmas.Nat.{ones-le}
use Rattle.sets.specs.Sets.{Before, fewer, as_many}
use Rattle.sets.specs.Laws.Sets.{before_irrefl}
use Rattle.sets.specs.Cores.{Core, Cut, is_core, is_cut}
use Rattle.sets.specs.Laws.Cores.{is_core_iff, is_cut_iff}
use Rattle.sets.specs.Demand3.{◌∈◌, Lists, Among}
use Rattle.sets.specs.Lists.{joined, one_if, select, sized, by_size, list_of, cores_of, cuts_of}

-- ---- members stand at places

pub at_place : (l : List ℕ) (i : ℕ) → i < length l → get_or l i 0 ∈ l
at_place [] i h = absurd (omega arith)
at_place (S ∷ l) zero h = Memᴰ.head refl
at_place (S ∷ l) (suc i) h = Memᴰ.tail (at_place l i (omega arith))

-- ---- membership

joined_in : (g : ℕ → List ℕ) (n S : ℕ) → S ∈ joined g n → (k : ℕ) × (k < n) × (S ∈ g k)
unfolding joined
joined_in g zero S m = absurd (Memᴰ.not-nil m)
joined_in g (suc n) S m =
    ⊎_elim (λ before. let r = joined_in g n S before in (r.0, omega arith, r.2)) (λ last. (n, omega arith, last))
    (Memᴰ.append_cases (joined g n) m)

in_joined : (g : ℕ → List ℕ) (n k S : ℕ) → k < n → S ∈ g k → S ∈ joined g n
unfolding joined
in_joined g zero k S l m = absurd (omega arith)
in_joined g (suc n) k S l m =
    ⊎_elim (λ e. Memᴰ.append_right (joined g n) (rw e at m)) (λ l. Memᴰ.append_left (g n) (in_joined g n k S l m))
    (eq-or-lt_of_le (le_of_suc-le-suc l))

mem_one_if : (b : Bool) (n S : ℕ) → (S ∈ one_if b n) ↔ ((S ≡ n) × (b ≡ true))
unfolding one_if
mem_one_if true n S = (λ m. (Memᴰ.eq_of_singleton m, refl), λ e. Memᴰ.head e.0)
mem_one_if false n S = (λ m. absurd (Memᴰ.not-nil m), λ e. absurd (false≢true e.1))

pub mem_select : (q : ℕ → Bool) (n S : ℕ) → (S ∈ select q n) ↔ ((S < n) × (q S ≡ true))
unfolding select
mem_select q n S = (
  λ m.
      let r = joined_in (λ T. one_if (q T) T) n S m in
      let e = (mem_one_if (q r.0) r.0 S).0 r.2 in
      (omega arith, rw e.0 e.1),
  λ p. in_joined (λ T. one_if (q T) T) n S S p.0 ((mem_one_if (q S) S S).1 (refl, p.1)),
)

sized_iff : (q : ℕ → Bool) (k S : ℕ) → (sized q k S ≡ true) ↔ ((ones S ≡ k) × (q S ≡ true))
unfolding sized
sized_iff q k S = (
  λ e. let both = (and-eq-true_iff (eqb (ones S) k) (q S)).0 e in (eqb-true (ones S) k both.0, both.1),
  λ p. (and-eq-true_iff (eqb (ones S) k) (q S)).1 (eq-eqb (ones S) k p.0, p.1),
)

mem_by_size : (q : ℕ → Bool) (n k S : ℕ) → (S ∈ by_size q n k) ↔ ((ones S < k) × (S < n) × (q S ≡ true))
unfolding by_size
mem_by_size q n k S = (
  λ m.
      let r = joined_in (λ size. select (sized q size) n) k S m in
      let e = (mem_select (sized q r.0) n S).0 r.2 in
      let both = (sized_iff q r.0 S).0 e.1 in
      (omega arith, e.0, both.1),
  λ p.
      in_joined (λ size. select (sized q size) n) k (ones S) S p.0
      ((mem_select (sized q (ones S)) n S).1 (p.1, (sized_iff q (ones S) S).1 (refl, p.2))),
)

pub mem_list_of : (R : ℕ) (q : ℕ → Bool) (S : ℕ) → (S ∈ list_of R q) ↔ ((S < 2 ^ R) × (q S ≡ true))
unfolding list_of
mem_list_of R q S = (
  λ m. let r = (mem_by_size q (2 ^ R) (suc R) S).0 m in (r.1, r.2),
  λ p. (mem_by_size q (2 ^ R) (suc R) S).1 (omega (arith, ones-le R S p.0), p.0, p.1),
)

-- ---- the order

-- Each set of the list comes before all that stand after it.
abbrev Ascending : List ℕ → Type 0
Ascending [] = Unit {0}
Ascending (S ∷ l) = ((T : ℕ) → T ∈ l → Before S T) × Ascending l

ascending_append : (l m : List ℕ) → Ascending l → Ascending m → ((S T : ℕ) → S ∈ l → T ∈ m → Before S T) → Ascending (l ++ m)
ascending_append [] m a b f = b
ascending_append (S ∷ l) m a b f = (
  λ T t. ⊎_elim (a.0 T) (f S T (Memᴰ.head refl)) (Memᴰ.append_cases l t),
  ascending_append l m a.1 b (λ U T u. f U T (Memᴰ.tail u)),
)

ascending_joined : (g : ℕ → List ℕ) (n : ℕ) → ((k : ℕ) → Ascending (g k))
    → ((j k S T : ℕ) → j < k → S ∈ g j → T ∈ g k → Before S T) → Ascending (joined g n)
unfolding joined
ascending_joined g zero a f = tt
ascending_joined g (suc n) a f =
    ascending_append (joined g n) (g n) (ascending_joined g n a f) (a n)
    (λ S T s t. let r = joined_in g n S s in f r.0 n S T r.1 r.2 t)

ascending_one_if : (b : Bool) (S : ℕ) → Ascending (one_if b S)
unfolding one_if
ascending_one_if true S = (λ T m. absurd (Memᴰ.not-nil m), tt)
ascending_one_if false S = tt

ascending_sized : (q : ℕ → Bool) (k n : ℕ) → Ascending (select (sized q k) n)
unfolding select
ascending_sized q k n = ascending_joined (λ S. one_if (sized q k S) S) n (λ S. ascending_one_if (sized q k S) S)
    (λ i j S T l s t.
    let e = (mem_one_if (sized q k i) i S).0 s in
    let f = (mem_one_if (sized q k j) j T).0 t in
    as_many
    (ap ones e.0 ∙ ((sized_iff q k i).0 e.1).0 ∙ sym (ap ones f.0 ∙ ((sized_iff q k j).0 f.1).0))
    (omega arith))

ascending_list_of : (R : ℕ) (q : ℕ → Bool) → Ascending (list_of R q)
unfolding list_of
ascending_list_of R q =
    ascending_joined (λ size. select (sized q size) (2 ^ R)) (suc R) (λ k. ascending_sized q k (2 ^ R))
    (λ j k S T l s t.
    let e = (sized_iff q j S).0 ((mem_select (sized q j) (2 ^ R) S).0 s).1 in
    let f = (sized_iff q k T).0 ((mem_select (sized q k) (2 ^ R) T).0 t).1 in
    fewer (omega arith))

-- The same place by place, and then no set stands at two places.
abbrev pub Ordered : List ℕ → Type 0
Ordered l = (i j : ℕ) → i < j → j < length l → Before (get_or l i 0) (get_or l j 0)

ascending_at : (l : List ℕ) → Ascending l → Ordered l
ascending_at [] a i j h b = absurd (omega arith)
ascending_at (S ∷ l) a i zero h b = absurd (omega arith)
ascending_at (S ∷ l) a zero (suc j) h b = a.0 (get_or l j 0) (at_place l j (omega arith))
ascending_at (S ∷ l) a (suc i) (suc j) h b = ascending_at l a.1 i j (omega arith) (omega arith)

pub order_once : (l : List ℕ) → Ordered l → (i j : ℕ) → i < length l → j < length l → get_or l i 0 ≡ get_or l j 0 → i ≡ j
order_once l o i j hi hj e =
    let notBefore : ¬ (i < j) = λ h. before_irrefl (get_or l j 0) (rw e at (o i j h hj)) in
    let notAfter : ¬ (j < i) = λ h. before_irrefl (get_or l j 0) (rw e at (o j i h hi)) in
    omega arith

-- ---- the laws of the lists

-- list_of lists the sets of R rules that pass the test.
pub list_of_lists : (R : ℕ) (q : ℕ → Bool) → Lists (list_of R q) (Among R (λ S. q S ≡ true))
list_of_lists R q =
    record {
      each = λ S p. (mem_list_of R q S).1 (p.rules, p.itself);
      only = λ S m. let p = (mem_list_of R q S).0 m in record { rules = p.0; itself = p.1 };
      once = order_once (list_of R q) (ascending_at (list_of R q) (ascending_list_of R q));
      order = ascending_at (list_of R q) (ascending_list_of R q);
    }

-- A list of the sets that are P is one of those that are Q, where these are the same sets.
pub lists_agree : {l : List ℕ} {P Q : ℕ → Type 0} → ((S : ℕ) → P S ↔ Q S) → Lists l P → Lists l Q
lists_agree e k = record { each = λ S q. k.each S ((e S).1 q); only = λ S m. (e S).0 (k.only S m); once = k.once; order = k.order }

among_agree : {R : ℕ} {P Q : ℕ → Type 0} → ((S : ℕ) → P S ↔ Q S) → (S : ℕ) → Among R P S ↔ Among R Q S
among_agree e S = (
  λ p. record { rules = p.rules; itself = (e S).0 p.itself },
  λ q. record { rules = q.rules; itself = (e S).1 q.itself },
)

-- The core list has each core exactly once and nothing else; the cut list has each cut exactly once and nothing else.
pub cores_of_lists : (R : ℕ) (h : ℕ → Bool) → Lists (cores_of R h) (Among R (Core h))
unfolding cores_of
cores_of_lists R h =
    lists_agree (among_agree (is_core_iff h)) (list_of_lists R (is_core h))

pub cuts_of_lists : (R : ℕ) (h : ℕ → Bool) → Lists (cuts_of R h) (Among R (Cut R h))
unfolding cuts_of
cuts_of_lists R h =
    lists_agree (among_agree (is_cut_iff R h)) (list_of_lists R (is_cut R h))
