-- The laws by which proofs use `least` and `any`: which number is the least one, that there is one only, and when some number passes.
-- From the definitions. Assumes nothing.
use Rattle.std.specs.Prelude.{ℕ, zero, suc, ◌+◌, ◌≤◌, ◌<◌, ◌≡◌, refl, Bool, true, false, ◌||◌, List, [], ◌∷◌, ltb, length, get_or, fold}
use Rattle.std.proofs.Math.Bool.{or-false, or_assoc}
use Rattle.std.proofs.Common.{sym, ap, ◌∙◌, ⊎_elim, true≢false, eq-or-lt_of_le, arith, ltb-true, lt-ltb}
use mathlib.Mathlib.Data.Bool.Basic.{or_inl, or_inr, eq-false_of_not-eq-true}
use Rattle.sets.specs.Laws.Choice.{alike, either}
use Rattle.systems.specs.Least.{least, any}

-- m is the least number below n that passes p, or n if none does.
pub record IsLeast (n : ℕ) (p : ℕ → Bool) (m : ℕ) : Type 0 where
  pub within : m ≤ n
  pub passes : m < n → p m ≡ true
  pub before : (k : ℕ) → k < m → p k ≡ false

pub least_is_least : (n : ℕ) (p : ℕ → Bool) → IsLeast n p (least n p)
unfolding least
least_is_least zero p = record { within = omega arith; passes = λ h. absurd (omega arith); before = λ k h. absurd (omega arith) }
least_is_least (suc n) p = go (p zero) refl (least n (λ k. p (suc k))) (least_is_least n (λ k. p (suc k)))
  where
    go : (b : Bool) → p zero ≡ b → (m : ℕ) → IsLeast n (λ k. p (suc k)) m → IsLeast (suc n) p (elim b [ true ↦ zero | false ↦ suc m ])
    go true e m r = record { within = omega arith; passes = λ h. e; before = λ k h. absurd (omega arith) }
    go false e m r = record { within = omega arith; passes = λ h. r.passes (omega arith); before = below }
      where
        below : (k : ℕ) → k < suc m → p k ≡ false
        below zero h = e
        below (suc k) h = r.before k (omega arith)

least_le : {n : ℕ} {p : ℕ → Bool} {a b : ℕ} → IsLeast n p a → IsLeast n p b → a ≤ b
least_le {n} {p} {a} {b} x y =
    let no_less : ¬ (b < a) = λ h. true≢false (sym (y.passes (omega arith)) ∙ x.before b h) in
    omega arith

-- What passes is no smaller.
pub least_at_most : (n : ℕ) (p : ℕ → Bool) (k : ℕ) → p k ≡ true → least n p ≤ k
least_at_most n p k e =
    let no_less : ¬ (k < least n p) = λ g. true≢false (sym e ∙ (least_is_least n p).before k g) in
    omega arith

-- There is one such m only.
pub least_only : {n : ℕ} {p : ℕ → Bool} {m : ℕ} → IsLeast n p m → least n p ≡ m
least_only {n} {p} {m} r =
    let l : least n p ≤ m = least_le (least_is_least n p) r in
    let g : m ≤ least n p = least_le r (least_is_least n p) in
    omega arith

-- Tests that agree below the bound have the same least number.
pub least_same : {n m : ℕ} {p q : ℕ → Bool} → n ≡ m → ((k : ℕ) → k < n → p k ≡ q k) → least n p ≡ least m q
least_same {n} {m} {p} {q} e same =
    let r : IsLeast m q (least m q) = least_is_least m q in
    least_only (record {
      within = omega arith;
      passes = λ h. same (least m q) h ∙ r.passes (omega arith);
      before = λ k h. same k (omega arith) ∙ r.before k h;
    })

pub any_intro : (n : ℕ) (p : ℕ → Bool) (k : ℕ) → k < n → p k ≡ true → any n p ≡ true
unfolding any
any_intro n p k h e = lt-ltb (least n p) n (omega (arith, least_at_most n p k e))

pub any_elim : (n : ℕ) (p : ℕ → Bool) → any n p ≡ true → (least n p < n) × (p (least n p) ≡ true)
unfolding any
any_elim n p e =
    let h : least n p < n = ltb-true (least n p) n e in
    (h, (least_is_least n p).passes h)

pub any_none : (n : ℕ) (p : ℕ → Bool) → ((k : ℕ) → k < n → p k ≡ false) → any n p ≡ false
any_none n p none = eq-false_of_not-eq-true (λ e. true≢false (sym (any_elim n p e).1 ∙ none (least n p) (any_elim n p e).0))

-- Tests that agree below the bound.
pub any_same : (n : ℕ) {p q : ℕ → Bool} → ((k : ℕ) → k < n → p k ≡ q k) → any n p ≡ any n q
unfolding any
any_same n same = ap (λ (m : ℕ). ltb m n) (least_same refl same)

-- One number more.
pub any_next : (n : ℕ) (p : ℕ → Bool) → (any n p || p n) ≡ any (n + 1) p
any_next n p = alike (any n p || p n) (any (n + 1) p) (λ e. ⊎_elim old new (either (any n p) (p n) e)) back
  where
    old : any n p ≡ true → any (n + 1) p ≡ true
    old e = let (h, f) = any_elim n p e in any_intro (n + 1) p (least n p) (omega arith) f

    new : p n ≡ true → any (n + 1) p ≡ true
    new e = any_intro (n + 1) p n (omega arith) e

    back : any (n + 1) p ≡ true → (any n p || p n) ≡ true
    back e =
        let (h, f) = any_elim (n + 1) p e in
        ⊎_elim
        (λ i. or_inr (any n p) (p n) (ap p (sym i) ∙ f))
        (λ i. or_inl (any n p) (p n) (any_intro n p (least (n + 1) p) i f))
        (eq-or-lt_of_le {n = least (n + 1) p} {m = n} (omega arith))

-- ---- over a list

-- The first number, and those behind it.
any_first : (n : ℕ) (p : ℕ → Bool) → any (suc n) p ≡ (p 0 || any n (λ k. p (suc k)))
unfolding any least
any_first n p = go (p 0) refl
  where
    go : (b : Bool) → p 0 ≡ b → any (suc n) p ≡ (b || any n (λ k. p (suc k)))
    go true e = any_intro (suc n) p 0 (omega arith) e
    go false e =
        let m : ℕ = least n (λ k. p (suc k)) in
        ap (λ b. ltb (elim b [ true ↦ zero | false ↦ suc m ]) (suc n)) e
        ∙ alike (ltb (suc m) (suc n)) (ltb m n)
        (λ e. lt-ltb m n (omega (arith, ltb-true (suc m) (suc n) e)))
        (λ e. lt-ltb (suc m) (suc n) (omega (arith, ltb-true m n e)))

fold_or : (p : ℕ → Bool) (found : Bool) (xs : List ℕ) → fold (λ found x. found || p x) found xs ≡ (found || any (length xs) (λ k. p (get_or xs k 0)))
fold_or p found [] = sym (ap (λ b. found || b) (any_none 0 (λ k. p (get_or [] k 0)) (λ k h. absurd (omega arith))) ∙ or-false found)
fold_or p found (x ∷ xs) =
    fold_or p (found || p x) xs
    ∙ or_assoc found (p x) (any (length xs) (λ k. p (get_or xs k 0)))
    ∙ ap (λ b. found || b) (sym (any_first (length xs) (λ k. p (get_or (x ∷ xs) k 0))))

-- Whether an item of a list passes, by a fold that looks at each of them.
pub fold_any : (p : ℕ → Bool) (xs : List ℕ) → fold (λ found x. found || p x) false xs ≡ any (length xs) (λ k. p (get_or xs k 0))
fold_any p xs = fold_or p false xs
