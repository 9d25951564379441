-- The first rule of a set is found as code counts it: the zeros below the lowest one of its number. And the list of a set's rules is the
-- first rule, followed by the list of the set without it, as a loop takes one rule after the other.
-- From the digits of a number, by induction on the places, and from the list of the numbers that pass a test, by induction on its length.
use Prim.Native.Nat.{ℕ, zero, suc, ◌/◌, ◌%◌, ◌^◌, ◌≤◌, ◌<◌}
use Rattle.std.specs.Prelude.{◌≡◌, refl, ◌≢◌, Bool, true, false, Some, None, [], ◌∷◌}
use Rattle.std.proofs.Common.{sym, ◌∙◌, arith, pow-suc, eq-or-lt_of_le, le_of_suc-le-suc, pow_mono, eq-eqb, ne_eqb}
use Rattle.std.proofs.Math.Logic.{⊎_elim}
use Rattle.std.specs.Int.Count.{count_trailing_zeros, under}
use Rattle.std.proofs.lemmas.Nat.{trailing_le}
use Rattle.sets.specs.Laws.Choice.{alike}
use Rattle.sets.specs.Bit.{has}
use Rattle.sets.specs.Laws.Bit.{has_front, has_behind, has_below, has_zero}
use Rattle.sets.specs.Sets.{without}
use Rattle.sets.specs.Laws.Sets.{has_without}
use Rattle.sets.specs.Laws.Cores.{false_if}
use Rattle.sets.specs.Lists.{select}
use Rattle.sets.specs.Next.{next_if_any}
use Rattle.sets.specs.Laws.Next.{next_is_some, next_is_none, is_some_next, is_none_next}

-- ---- the first rule

-- The first place is a one, or the first rule is that of the places behind it.
turn : (P : ℕ → Type 0) (k S : ℕ) → (S % 2 ≡ 1 → P 0) → (S % 2 ≡ 0 → P (suc (count_trailing_zeros k (S / 2)))) → P (count_trailing_zeros (suc k) S)
unfolding count_trailing_zeros
turn P k S here later = by (S % 2) refl
  where
    by : (d : ℕ) → S % 2 ≡ d → P (under d (count_trailing_zeros k (S / 2)))
    by zero e = later e
    by (suc d) e = here (omega arith)

-- A set of k rules that is not set 0 has its first rule.
pub first_has : (k S : ℕ) → S ≢ 0 → S < 2 ^ k → has S (count_trailing_zeros k S) ≡ true
first_has zero S n l = absurd (omega arith)
first_has (suc k) S n l =
    turn (λ t. has S t ≡ true) k S (λ e. has_front S ∙ eq-eqb (S % 2) 1 e)
    (λ e. has_behind S (count_trailing_zeros k (S / 2)) ∙ first_has k (S / 2) (omega arith) (omega (arith, pow-suc 2 k)))

-- It has no rule before its first.
pub first_least : (k S j : ℕ) → j < count_trailing_zeros k S → has S j ≡ false
first_least zero S j = λ l. absurd (omega (arith, trailing_le 0 S))
first_least (suc k) S zero =
    turn (λ t. 0 < t → has S 0 ≡ false) k S (λ e l. absurd (omega arith)) (λ e l. has_front S ∙ ne_eqb (S % 2) 1 (omega arith))
first_least (suc k) S (suc j) =
    turn (λ t. suc j < t → has S (suc j) ≡ false) k S (λ e l. absurd (omega arith))
    (λ e l. has_behind S j ∙ first_least k (S / 2) j (omega arith))

-- So it is the first of 16 that is in the set.
pub first_next : (S : ℕ) → S ≢ 0 → S < 65536 → Some (count_trailing_zeros 16 S) ≡ next_if_any (has S) 0 16
first_next S n l =
    let t : ℕ = count_trailing_zeros 16 S in
    let itself : has S t ≡ true = first_has 16 S n l in
    let below : t < 16 = has_below 16 S t l itself in
    sym (is_some_next (has S) (omega arith) below
    (record { within = omega arith; after = λ _. omega arith; passes = λ _. itself; passed = λ j a b. first_least 16 S j b }))

pub none_next : None ≡ next_if_any (has 0) 0 16
none_next = sym (is_none_next (has 0) (λ j a b. false_if (has 0 j) (has_zero j)))

-- ---- the list of the rules

none_passes : (q : ℕ → Bool) (n : ℕ) → ((j : ℕ) → j < n → q j ≡ false) → select q n ≡ []
unfolding select
none_passes q zero f = refl
none_passes q (suc n) f = rw (none_passes q n (λ j l. f j (omega arith)), f n (omega arith))

-- The first that passes q is t, and p passes what q does but t.
module _ (q p : ℕ → Bool) (t : ℕ) (passes : q t ≡ true) (least : (j : ℕ) → j < t → q j ≡ false) (gone : p t ≡ false)
    (rest : (j : ℕ) → j ≢ t → p j ≡ q j) where
  first_passes : (n : ℕ) → t < n → select q n ≡ t ∷ select p n
  unfolding select
  first_passes zero l = absurd (omega arith)
  first_passes (suc n) l =
      ⊎_elim
      (λ e. rw (← e, none_passes q t least, none_passes p t (λ j b. rest j (omega arith) ∙ least j b), passes, gone))
      (λ b. rw (first_passes n b, rest n (omega arith)))
      (eq-or-lt_of_le (le_of_suc-le-suc l))

-- The rules of a set whose first rule is t: this one, and then those of the set without it.
without_first : (S t : ℕ) → has S t ≡ true → ((j : ℕ) → j < t → has S j ≡ false) → (R : ℕ) → t < R
    → select (has S) R ≡ t ∷ select (has (without S t)) R
without_first S t itself least =
    first_passes (has S) (has (without S t)) t itself least
    (false_if (has (without S t) t) (λ e. ((has_without S t t).0 e).1 refl))
    (λ j other. alike (has (without S t) j) (has S j) (λ e. ((has_without S t j).0 e).0) (λ e. (has_without S t j).1 (e, other)))

-- The rules of a set of R rules that is not set 0: its first rule, and then those of the set without it.
pub select_first : (R S : ℕ) → R ≤ 16 → S ≢ 0 → S < 2 ^ R
    → select (has S) R ≡ count_trailing_zeros 16 S ∷ select (has (without S (count_trailing_zeros 16 S))) R
select_first R S b n l =
    let t : ℕ = count_trailing_zeros 16 S in
    let itself : has S t ≡ true = first_has 16 S n (omega (arith, pow_mono b)) in
    without_first S t itself (first_least 16 S) R (has_below R S t l itself)

-- The same of a set whose first rule is told; and a set that is told to have none has no rules.
pub select_told : (S t : ℕ) → Some t ≡ next_if_any (has S) 0 16 → select (has S) 16 ≡ t ∷ select (has (without S t)) 16
select_told S t told =
    let next = next_is_some (has S) (sym told) in
    without_first S t (next.2.passes next.1) (λ j l. next.2.passed j (omega arith) l) 16 next.1

pub told_below : (S t : ℕ) → Some t ≡ next_if_any (has S) 0 16 → t < 16
told_below S t told = (next_is_some (has S) (sym told)).1

pub told_none : (S : ℕ) → None ≡ next_if_any (has S) 0 16 → select (has S) 16 ≡ []
told_none S told = none_passes (has S) 16 (λ j l. next_is_none (has S) (sym told) j (omega arith) l)

-- Set 0 has no rules.
pub select_none : (R : ℕ) → select (has 0) R ≡ []
select_none R = none_passes (has 0) R (λ j _. false_if (has 0 j) (has_zero j))
