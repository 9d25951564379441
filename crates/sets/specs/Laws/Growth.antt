-- How the lists grow with their bounds: a part of a list is no longer than the list, tests that agree give the same list, and the list by
-- size is as long as the list by number. From what one more number adds to each.
use Rattle.std.specs.Prelude.{ℕ, zero, suc, ◌+◌, ◌-◌, ◌^◌, ◌≤◌, ◌<◌, ◌≡◌, refl, Bool, true, not, ◌&&◌, List, [], ◌++◌, ltb, eqb, length}
use Rattle.std.proofs.Common.{sym, ap, ap₂, ◌∙◌, ⊎_elim, arith, eq-or-lt_of_le, le_of_suc-le-suc, add-one, lt-ltb, le-ltb, eq-eqb, ne_eqb, length-append, pow_pos}
use Rattle.std.proofs.Math.Decide.{dec_lt}
use Rattle.std.specs.Int.Count.{ones}
use Rattle.std.proofs.lemmas.Nat.{ones-le}
use Rattle.sets.specs.Laws.Choice.{alike}
use Rattle.sets.specs.Bit.{full}
use Rattle.sets.specs.Laws.Sets.{part_le}
use Rattle.sets.specs.Cores.{Core, breaks, is_core, is_cut}
use Rattle.sets.specs.Laws.Cores.{least_agree, is_core_iff}
use Rattle.sets.specs.Lists.{joined, one_if, select, sized, by_size, list_of, cores_of}

-- ---- a part is no longer than the whole

pub joined_more : (g : ℕ → List ℕ) (n : ℕ) → joined g (n + 1) ≡ joined g n ++ g n
unfolding joined
joined_more g n = rw add-one

pub joined_le : (g : ℕ → List ℕ) (m n : ℕ) → m ≤ n → length (joined g m) ≤ length (joined g n)
unfolding joined
joined_le g m zero h = let e : m ≡ 0 = omega arith in rw e (omega arith)
joined_le g m (suc n) h =
    ⊎_elim (λ e. rw e (omega arith))
    (λ l. omega (arith, length-append (joined g n) (g n), joined_le g m n (le_of_suc-le-suc l))) (eq-or-lt_of_le h)

-- ---- tests that agree

pub joined_agree : (f g : ℕ → List ℕ) (n : ℕ) → ((k : ℕ) → k < n → f k ≡ g k) → joined f n ≡ joined g n
unfolding joined
joined_agree f g zero h = refl
joined_agree f g (suc n) h = ap₂ ◌++◌ (joined_agree f g n (λ k l. h k (omega arith))) (h n (omega arith))

pub list_of_agree : (R : ℕ) (p q : ℕ → Bool) → ((S : ℕ) → S < 2 ^ R → p S ≡ q S) → list_of R p ≡ list_of R q
unfolding list_of by_size select sized
list_of_agree R p q h =
    joined_agree (λ size. select (sized p size) (2 ^ R)) (λ size. select (sized q size) (2 ^ R)) (suc R)
    (λ size _.
    joined_agree (λ S. one_if (sized p size S) S) (λ S. one_if (sized q size S) S) (2 ^ R)
    (λ S l. ap (λ b. one_if (eqb (ones S) size && b) S) (h S l)))

-- Judgements that agree on the sets of R rules have the same cores and the same cuts.
pub is_core_agree : (R : ℕ) (g h : ℕ → Bool) → ((S : ℕ) → S < 2 ^ R → g S ≡ h S) → (S : ℕ) → S < 2 ^ R → is_core g S ≡ is_core h S
unfolding Core
is_core_agree R g h e S l =
    let same =
    least_agree (λ T. g T ≡ true) (λ T. h T ≡ true) S
    (λ T p. let t = e T (omega (arith, part_le p)) in (λ m. sym t ∙ m, λ m. t ∙ m))
    in
    alike (is_core g S) (is_core h S) (λ m. (is_core_iff h S).1 (same.0 ((is_core_iff g S).0 m)))
    (λ m. (is_core_iff g S).1 (same.1 ((is_core_iff h S).0 m)))

pub is_cut_agree : (R : ℕ) (g h : ℕ → Bool) → ((S : ℕ) → S < 2 ^ R → g S ≡ h S) → (S : ℕ) → S < 2 ^ R → is_cut R g S ≡ is_cut R h S
unfolding is_cut is_core breaks
is_cut_agree R g h same = is_core_agree R (breaks R g) (breaks R h) (λ S l. ap not (same (full R - S) (omega (arith, pow_pos R))))

-- So they have the same core list.
pub cores_of_agree : (R : ℕ) (g h : ℕ → Bool) → ((S : ℕ) → S < 2 ^ R → g S ≡ h S) → cores_of R g ≡ cores_of R h
unfolding cores_of
cores_of_agree R g h e = list_of_agree R (is_core g) (is_core h) (is_core_agree R g h e)

-- ---- the length of the list by size

-- S has fewer than k rules, or k, or neither: of k + 1 sizes it is in one more.
one_size : (x k S : ℕ) (b : Bool)
    → length (one_if (ltb x k && b) S) + length (one_if (eqb x k && b) S) ≡ length (one_if (ltb x (suc k) && b) S)
unfolding one_if
one_size x k S b = go (dec_lt x k) (dec_lt k x)
  where
    go : Dec (x < k) → Dec (k < x)
        → length (one_if (ltb x k && b) S) + length (one_if (eqb x k && b) S) ≡ length (one_if (ltb x (suc k) && b) S)
    go (yes l) d = rw (lt-ltb x k l, ne_eqb x k (omega arith), lt-ltb x (suc k) (omega arith)) (omega arith)
    go (no l) (yes g) = rw (le-ltb x k (omega arith), ne_eqb x k (omega arith), le-ltb x (suc k) (omega arith)) (omega arith)
    go (no l) (no g) = rw (le-ltb x k (omega arith), eq-eqb x k (omega arith), lt-ltb x (suc k) (omega arith)) (omega arith)

one_number : (q : ℕ → Bool) (n k : ℕ)
    → length (by_size q (suc n) k) ≡ length (by_size q n k) + length (one_if (ltb (ones n) k && q n) n)
unfolding by_size select sized one_if
one_number q n zero = rw (le-ltb (ones n) 0 (omega arith)) (omega arith)
one_number q n (suc k) =
    omega (
      arith,
      length-append (by_size q (suc n) k) (select (sized q k) (suc n)),
      length-append (select (sized q k) n) (one_if (sized q k n) n),
      length-append (by_size q n k) (select (sized q k) n),
      one_number q n k,
      one_size (ones n) k n (q n),
    )

no_number : (q : ℕ → Bool) (k : ℕ) → length (by_size q 0 k) ≡ 0
unfolding by_size select joined
no_number q zero = refl
no_number q (suc k) = length-append (by_size q 0 k) [] ∙ omega (arith, no_number q k)

all_sizes : (q : ℕ → Bool) (n k : ℕ) → ((S : ℕ) → S < n → ones S < k) → length (by_size q n k) ≡ length (select q n)
unfolding select
all_sizes q zero k h = no_number q k
all_sizes q (suc n) k h =
    one_number q n k ∙ rw (lt-ltb (ones n) k (h n (omega arith)))
    (omega (arith, all_sizes q n k (λ S l. h S (omega arith)), length-append (select q n) (one_if (q n) n)))

-- A list has as many sets as pass its test.
pub length_list_of : (R : ℕ) (q : ℕ → Bool) → length (list_of R q) ≡ length (select q (2 ^ R))
unfolding list_of
length_list_of R q = all_sizes q (2 ^ R) (suc R) (λ S l. omega (arith, ones-le R S l))
