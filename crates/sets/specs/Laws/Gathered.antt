-- The set of the numbers that pass a test is below 2 ^ n, and has exactly the numbers below n that pass. So the complement, the meet and so
-- on of sets are gathered by the tests so combined. By induction on n.
use Rattle.std.specs.Prelude.{ℕ, zero, suc, ◌+◌, ◌-◌, ◌%◌, ◌^◌, ◌<◌, ◌≡◌, refl, ◌⊎◌, Bool, true, false, not, ◌&&◌, ◌||◌, eqb}
use Rattle.std.proofs.Common.{sym, ap, ◌∙◌, inl, inr, ⊎_elim, arith, pow-suc, add-one, below_more, pow_pos, pow_mono}
use Rattle.std.specs.Bool.{beq}
use Rattle.std.proofs.Math.Bool.{not-not, and-eq-true_iff}
use Rattle.std.proofs.lemmas.Bool.{false≢true}
use mathlib.Mathlib.Data.Bool.Basic.{or_inl, or_inr}
use Rattle.std.proofs.Math.Decide.{ℕ_discrete}
use Rattle.std.proofs.Math.Arith.{digits_lt}
use Rattle.std.specs.Int.Bits.{bit_and, bit_or, bit_xor, and_lt}
use Rattle.std.proofs.lemmas.Nat.{or_lt, xor_lt}
use Rattle.std.proofs.Math.Pow.{high, low, ones_lt, ones_sub-lt}
use Rattle.sets.specs.Laws.Choice.{alike, either}
use Rattle.sets.specs.Bit.{has, full}
use Rattle.sets.specs.Laws.Bit.{has_low, has_and, has_or, has_xor, has_le, has_below, has_zero, has_full, has_rest}
use Rattle.sets.specs.Gathered.{one, set_of}
use Rattle.sets.specs.Sets.{with}
use Rattle.sets.specs.Laws.Sets.{has_with, with_below}

pub one_lt : (b : Bool) → one b < 2
unfolding one
one_lt true = omega arith
one_lt false = omega arith

one_is : (b : Bool) → eqb (one b % 2) 1 ≡ b
unfolding one
one_is true = refl
one_is false = refl

pub set_of_lt : (n : ℕ) (p : ℕ → Bool) → set_of n p < 2 ^ n
unfolding set_of
set_of_lt zero p = omega arith
set_of_lt (suc n) p = omega (arith, digits_lt (one_lt (p n)) (set_of_lt n p), pow-suc 2 n)

-- Of the first n numbers, the set has those that pass the test.
pub has_set_of : (n : ℕ) (p : ℕ → Bool) (i : ℕ) → i < n → has (set_of n p) i ≡ p i
unfolding set_of has
has_set_of zero p i h = absurd (omega arith)
has_set_of (suc n) p i h =
    below_more (λ (i : ℕ). has (set_of (suc n) p) i ≡ p i) n
    (λ i l.
    sym (has_low n (set_of (suc n) p) i l)
    ∙ ap (λ (S : ℕ). has S i) (low (one (p n)) n (set_of_lt n p))
    ∙ has_set_of n p i l)
    (ap (λ (x : ℕ). eqb (x % 2) 1) (high (one (p n)) n (set_of_lt n p)) ∙ one_is (p n))
    i
    (omega arith)

-- A set of the first n numbers that has the number i exactly where p is true of it is the set of those that pass p.
pub is_set_of : (n S : ℕ) (p : ℕ → Bool) → S < 2 ^ n → ((i : ℕ) → i < n → has S i ≡ p i) → S ≡ set_of n p
is_set_of n S p h same =
    omega (
      arith,
      has_le S (set_of n p) (λ i e. let l = has_below n S i h e in has_set_of n p i l ∙ sym (same i l) ∙ e),
      has_le (set_of n p) S (λ i e. let l = has_below n (set_of n p) i (set_of_lt n p) e in same i l ∙ sym (has_set_of n p i l) ∙ e),
    )

-- Tests that agree below n gather the same set.
pub set_of_same : (n : ℕ) (p q : ℕ → Bool) → ((i : ℕ) → i < n → p i ≡ q i) → set_of n p ≡ set_of n q
set_of_same n p q same = is_set_of n (set_of n p) q (set_of_lt n p) (λ i l. has_set_of n p i l ∙ same i l)

pub set_of_none : (n : ℕ) → 0 ≡ set_of n (λ i. false)
set_of_none n = is_set_of n 0 (λ i. false) (pow_pos n) (λ i l. alike (has 0 i) false (λ e. absurd (has_zero i e)) (λ e. absurd (false≢true e)))

-- One number more, which passes or does not.
pub set_of_more : (n : ℕ) (p : ℕ → Bool) → p n ≡ true → with (set_of n p) n ≡ set_of (n + 1) p
set_of_more n p e =
    is_set_of (n + 1) (with (set_of n p) n) p (with_below (n + 1) (set_of n p) n (omega (arith, set_of_lt n p, pow_mono {i = n} {j = n + 1} (omega arith))) (omega arith))
    (λ i l. alike (has (with (set_of n p) n) i) (p i)
    (λ m. ⊎_elim (λ s. let b = has_below n (set_of n p) i (set_of_lt n p) s in sym (has_set_of n p i b) ∙ s) (λ q. ap p q ∙ e) ((has_with (set_of n p) n i).0 m))
    (λ m. (has_with (set_of n p) n i).1 (go i l m (ℕ_discrete i n))))
  where
    go : (i : ℕ) → i < n + 1 → p i ≡ true → Dec (i ≡ n) → (has (set_of n p) i ≡ true) ⊎ (i ≡ n)
    go i l m (yes q) = inr q
    go i l m (no q) = inl (has_set_of n p i (omega arith) ∙ m)

pub set_of_same_more : (n : ℕ) (p : ℕ → Bool) → p n ≡ false → set_of n p ≡ set_of (n + 1) p
unfolding set_of one
set_of_same_more n p e = sym (ap (λ m. set_of m p) (add-one n) ∙ rw e (omega arith))

pub set_of_all : (n : ℕ) → full n ≡ set_of n (λ i. true)
set_of_all n = is_set_of n (full n) (λ i. true) (ones_lt n) (λ i l. (has_full n i).1 l)

-- ---- which of the first n numbers are in a complement, a meet, a union and so on

pub or_has : (S T i : ℕ) → has (bit_or S T) i ≡ (has S i || has T i)
or_has S T i =
    alike (has (bit_or S T) i) (has S i || has T i) (λ e. ⊎_elim (or_inl (has S i) (has T i)) (or_inr (has S i) (has T i)) ((has_or S T i).0 e))
    (λ e. (has_or S T i).1 (either (has S i) (has T i) e))

pub and_has : (S T i : ℕ) → has (bit_and S T) i ≡ (has S i && has T i)
and_has S T i =
    alike (has (bit_and S T) i) (has S i && has T i) (λ e. (and-eq-true_iff (has S i) (has T i)).1 ((has_and S T i).0 e))
    (λ e. (has_and S T i).1 ((and-eq-true_iff (has S i) (has T i)).0 e))

module _ (n S : ℕ) (h : S < 2 ^ n) where
  pub rest_has : (i : ℕ) → i < n → has (full n - S) i ≡ not (has S i)
  rest_has i l =
      alike (has (full n - S) i) (not (has S i)) (λ e. lacks (has S i) ((has_rest n S i h).0 e).1)
      (λ e. (has_rest n S i h).1 (l, λ m. false≢true (sym (ap not m) ∙ e)))
    where
      lacks : (a : Bool) → ¬ (a ≡ true) → not a ≡ true
      lacks true m = absurd (m refl)
      lacks false m = refl

  pub not_set_of : full n - S ≡ set_of n (λ i. not (has S i))
  not_set_of = is_set_of n (full n - S) (λ i. not (has S i)) (ones_sub-lt n S) rest_has

module _ (n S T : ℕ) (h : S < 2 ^ n) (k : T < 2 ^ n) where
  pub and_set_of : bit_and S T ≡ set_of n (λ i. has S i && has T i)
  and_set_of = is_set_of n (bit_and S T) (λ i. has S i && has T i) (and_lt n S T h k) (λ i l. and_has S T i)

  pub or_set_of : bit_or S T ≡ set_of n (λ i. has S i || has T i)
  or_set_of = is_set_of n (bit_or S T) (λ i. has S i || has T i) (or_lt n S T h k) (λ i l. or_has S T i)

  pub implies_set_of : bit_or (full n - S) T ≡ set_of n (λ i. not (has S i) || has T i)
  implies_set_of =
      is_set_of n (bit_or (full n - S) T) (λ i. not (has S i) || has T i) (or_lt n (full n - S) T (ones_sub-lt n S) k)
      (λ i l. or_has (full n - S) T i ∙ ap (λ b. b || has T i) (rest_has n S h i l))

  pub alike_set_of : full n - bit_xor S T ≡ set_of n (λ i. beq (has S i) (has T i))
  alike_set_of =
      is_set_of n (full n - bit_xor S T) (λ i. beq (has S i) (has T i)) (ones_sub-lt n (bit_xor S T))
      (λ i l. rest_has n (bit_xor S T) (xor_lt n S T h k) i l ∙ ap not (has_xor S T i) ∙ not-not (beq (has S i) (has T i)))
