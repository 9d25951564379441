-- How many numbers pass a test: at most the bound, and more if one more number passes; one more if that is the only one; no more past the last
-- number that passes. By induction on the bound. Assumes nothing.
use Prim.Native.Nat.{ℕ, zero, suc, ◌+◌, ◌≤◌, ◌<◌}
use Rattle.std.specs.Prelude.{◌≡◌, refl, ◌≢◌, Bool}
use Rattle.std.proofs.Common.{sym, ap₂, ◌∙◌, true≢false, eq-or-lt_of_le}
use Rattle.std.proofs.Math.Path.{ap}
use Rattle.std.proofs.Math.Logic.{⊎_elim}
use Rattle.std.proofs.Math.Bool.{true, false}
use Rattle.std.proofs.Math.Decide.{le_ind}
use native.Mathlib.Omega.{arith}
use Rattle.sets.specs.Gathered.{one}
use Rattle.systems.specs.Count.{count}

pub count_le : (n : ℕ) (p : ℕ → Bool) → count n p ≤ n
unfolding count
count_le zero p = omega arith
count_le (suc n) p = omega (arith, count_le n p, at_most (p n))
  where
    at_most : (b : Bool) → one b ≤ 1
    at_most true = omega arith
    at_most false = omega arith

module _ (p q : ℕ → Bool) (implies : (k : ℕ) → p k ≡ true → q k ≡ true) where
  one_le : (k : ℕ) → one (p k) ≤ one (q k)
  unfolding one
  one_le k = go (p k) (q k) (implies k)
    where
      go : (a b : Bool) → (a ≡ true → b ≡ true) → one a ≤ one b
      go false b h = omega arith
      go true true h = omega arith
      go true false h = absurd (true≢false (sym (h refl)))

  count_mono : (n : ℕ) → count n p ≤ count n q
  unfolding count
  count_mono zero = omega arith
  count_mono (suc n) = omega (arith, count_mono n, one_le n)

  -- Where every number that passes p passes q, and s passes q alone, more pass q.
  pub count_more : (n s : ℕ) → s < n → p s ≡ false → q s ≡ true → count n p < count n q
  unfolding count
  count_more zero s h e f = absurd (omega arith)
  count_more (suc n) s h e f =
      ⊎_elim
      (λ i. omega (arith, count_mono n, ap one (ap p (sym i) ∙ e), ap one (ap q (sym i) ∙ f)))
      (λ i. omega (arith, count_more n s i e f, one_le n))
      (eq-or-lt_of_le {n = s} {m = n} (omega arith))

pub count_none : (p : ℕ → Bool) → ((k : ℕ) → p k ≡ false) → (n : ℕ) → count n p ≡ 0
unfolding count
count_none p none zero = refl
count_none p none (suc n) = omega (arith, count_none p none n, ap one (none n))

-- Where every number below the bound passes, so many do;
pub count_all : (p : ℕ → Bool) (n : ℕ) → ((k : ℕ) → k < n → p k ≡ true) → count n p ≡ n
unfolding count
count_all p zero all = refl
count_all p (suc n) all = omega (arith, count_all p n (λ k h. all k (omega arith)), ap one (all n (omega arith)))

-- where one does not, fewer.
pub count_less : (p : ℕ → Bool) (n s : ℕ) → s < n → p s ≡ false → count n p < n
count_less p n s h e = omega (arith, count_more p (λ _. true) (λ _ _. refl) n s h e refl, count_le n (λ _. true))

pub count_same : (p q : ℕ → Bool) (n : ℕ) → ((k : ℕ) → k < n → p k ≡ q k) → count n p ≡ count n q
unfolding count
count_same p q zero same = refl
count_same p q (suc n) same = ap₂ (λ c b. c + one b) (count_same p q n (λ k h. same k (omega arith))) (same n (omega arith))

-- Where s passes q alone, and every other number both tests or none, one more passes q.
pub count_one_more : (p q : ℕ → Bool) (s : ℕ) → p s ≡ false → q s ≡ true → ((k : ℕ) → k ≢ s → p k ≡ q k) → (n : ℕ) → s < n
    → count n q ≡ suc (count n p)
unfolding count
count_one_more p q s e f same zero h = absurd (omega arith)
count_one_more p q s e f same (suc n) h =
    ⊎_elim
    (λ i.
    omega (
      arith,
      count_same p q n (λ k g. same k (omega arith)),
      ap one (ap p (sym i) ∙ e),
      ap one (ap q (sym i) ∙ f),
    ))
    (λ i. omega (arith, count_one_more p q s e f same n i, ap one (same n (omega arith))))
    (eq-or-lt_of_le {n = s} {m = n} (omega arith))

-- Where no number from n on passes, a bound past n changes nothing.
pub count_past : (p : ℕ → Bool) (n : ℕ) → ((k : ℕ) → n ≤ k → p k ≡ false) → (m : ℕ) → n ≤ m → count m p ≡ count n p
unfolding count
count_past p n none = le_ind (λ m. count m p ≡ count n p) refl (λ m h e. omega (arith, e, ap one (none m h)))
