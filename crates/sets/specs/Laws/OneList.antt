-- There is one list of the sets that are P, and how a list is carried over by a function that keeps the order.
-- From the order of the lists: the first set of each is the other's first, and so on.
use Rattle.std.specs.Prelude.{ℕ, zero, suc, ◌<◌, ◌≡◌, refl, List, [], ◌∷◌, map, length, get_or}
use Rattle.std.proofs.Common.{sym, ap₂, ◌∙◌, ⊎_elim, arith}
use mathlib.Core.List.Memᴰ
use Rattle.std.proofs.lemmas.List.{length-map}
use Rattle.sets.specs.Sets.{Before, fewer, as_many}
use Rattle.sets.specs.Laws.Sets.{before_irrefl}
use Rattle.sets.specs.Demand3.{◌∈◌, Lists}
use Rattle.sets.specs.Laws.Listed.{at_place, Ordered, order_once}

-- ---- the order

before_asym : {S T : ℕ} → Before S T → ¬ Before T S
before_asym (fewer l) (fewer m) = omega arith
before_asym (fewer l) (as_many e m) = omega arith
before_asym (as_many e l) (fewer m) = omega arith
before_asym (as_many e l) (as_many f m) = omega arith

-- A place in a list is one further on behind another entry.
one_further : {S : ℕ} (T : ℕ) (l : List ℕ) → (i : ℕ) × (i < length l) × (get_or l i 0 ≡ S) → (i : ℕ) × (i < length (T ∷ l)) × (get_or (T ∷ l) i 0 ≡ S)
one_further T l r = (suc r.0, omega (arith, r.1), r.2)

-- A member stands at a place.
place_of : {S : ℕ} (l : List ℕ) → S ∈ l → (i : ℕ) × (i < length l) × (get_or l i 0 ≡ S)
place_of [] m = absurd (Memᴰ.not-nil m)
place_of {S} (T ∷ l) m = ⊎_elim (λ e. (0, omega arith, sym e)) (λ k. one_further {S = S} T l (place_of l k)) (Memᴰ.cases_cons m)

behind : {S T : ℕ} (l : List ℕ) → Ordered (S ∷ l) → T ∈ l → Before S T
behind {S} l o m = let r = place_of l m in rw r.2 at (o 0 (suc r.0) (omega arith) (omega (arith, r.1)))

rest_ordered : {S : ℕ} (l : List ℕ) → Ordered (S ∷ l) → Ordered l
rest_ordered l o i j h b = o (suc i) (suc j) (omega arith) (omega arith)

-- What comes after the first set is not the first set.
not_first : {S T U : ℕ} {m : List ℕ} → S ≡ T → Before S U → U ∈ T ∷ m → U ∈ m
not_first {S} {T} {U} e b u =
    ⊎_elim (λ d. let same : U ≡ S = d ∙ sym e in absurd (before_irrefl S (rw same at b))) (λ k. k) (Memᴰ.cases_cons u)

-- ---- one list

same_members : (l m : List ℕ) → Ordered l → Ordered m → ((S : ℕ) → S ∈ l → S ∈ m) → ((S : ℕ) → S ∈ m → S ∈ l) → l ≡ m
same_members [] [] o p f g = refl
same_members [] (T ∷ m) o p f g = absurd (Memᴰ.not-nil (g T (Memᴰ.head refl)))
same_members (S ∷ l) [] o p f g = absurd (Memᴰ.not-nil (f S (Memᴰ.head refl)))
same_members (S ∷ l) (T ∷ m) o p f g =
    ap₂ ◌∷◌ first
    (same_members l m (rest_ordered l o) (rest_ordered m p) (λ U u. not_first first (behind l o u) (f U (Memᴰ.tail u)))
    (λ U u. not_first (sym first) (behind m p u) (g U (Memᴰ.tail u))))
  where
    first : S ≡ T
    first =
        ⊎_elim (λ e. e)
        (λ s. ⊎_elim sym (λ t. absurd (before_asym (behind m p s) (behind l o t))) (Memᴰ.cases_cons (g T (Memᴰ.head refl))))
        (Memᴰ.cases_cons (f S (Memᴰ.head refl)))

-- Two lists of the sets that are P are one.
pub one_list : (l m : List ℕ) (P : ℕ → Type 0) → Lists l P → Lists m P → l ≡ m
one_list l m P k n =
    same_members l m k.order n.order (λ S s. n.each S (k.only S s)) (λ S s. k.each S (n.only S s))

-- ---- a list carried over

get_d_map : (f : ℕ → ℕ) (l : List ℕ) (i : ℕ) → i < length l → get_or (map f l) i 0 ≡ f (get_or l i 0)
get_d_map f [] i h = absurd (omega arith)
get_d_map f (S ∷ l) zero h = refl
get_d_map f (S ∷ l) (suc i) h = get_d_map f l i (omega arith)

-- The sets that are Q are the images of those that are P, and f keeps the order of these.
module _ (f : ℕ → ℕ) (P Q : ℕ → Type 0) (to : (S : ℕ) → P S → Q (f S)) (from : (T : ℕ) → Q T → (S : ℕ) × P S × (f S ≡ T))
    (keeps : (S T : ℕ) → P S → P T → Before S T → Before (f S) (f T)) where
  pub lists_map : (l : List ℕ) → Lists l P → Lists (map f l) Q
  lists_map l k =
      record {
        each = λ T q. let r = from T q in Memᴰ.cast (sym r.2) (Memᴰ.map f (k.each r.0 r.1));
        only = λ T m. let r = Memᴰ.of_map f l m in rw r.2 at (to r.0 (k.only r.0 r.1));
        once = order_once (map f l) ordered;
        order = ordered;
      }
    where
      ordered : Ordered (map f l)
      ordered i j h b =
          let hj : j < length l = omega (arith, length-map l f) in
          let hi : i < length l = omega arith in
          rw (get_d_map f l i hi, get_d_map f l j hj)
          (keeps (get_or l i 0) (get_or l j 0) (k.only (get_or l i 0) (at_place l i hi)) (k.only (get_or l j 0) (at_place l j hj)) (k.order i j h hj))
