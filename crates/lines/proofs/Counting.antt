-- The count that a list of bytes writes, by its first two bytes: one or two digits are the decimal form of a count below 100, and no other list is.
-- From the laws of counts and of numbers in base ten.
use Rattle.std.specs.Prelude.{ℕ, zero, suc, ◌+◌, ◌-◌, ◌*◌, ◌/◌, ◌%◌, ◌≤◌, ◌<◌, ◌≡◌, ◌≢◌, refl, Bool, true, false, cond, ◌&&◌, eqb, leb, List, [], ◌∷◌, length, get_or, Some, None, option_and_then}
use Rattle.std.proofs.Common.{sym, ap, ap₂, ◌∙◌, arith}
use Rattle.std.proofs.lemmas.Bool.Decides.{nat_tests}
use Rattle.std.proofs.Math.Bool.{and-eq-true_iff}
use Rattle.sets.specs.Laws.Choice.{by_test}
use Rattle.lines.specs.Lines.{count_in, count_or_none}
use Rattle.lines.specs.Decimal.{decimal}
use Rattle.lines.specs.Laws.Decimal.{decimal_one, decimal_two, decimal_short}
use Rattle.lines.proofs.Laws.Lines.{count_there, count_none, count_within}

-- the digit that a byte is, where it is one of the digits from `least` on
abbrev pub is_digit_from : ℕ → ℕ → Bool
is_digit_from least b = leb (48 + least) b && leb b 57

digit : (least b : ℕ) → is_digit_from least b ≡ true → (48 + least ≤ b) × (b ≤ 57)
digit least b h = (grind (arith, nat_tests), grind (arith, nat_tests))

-- a count is one of at least 1
some : (n : ℕ) → 1 ≤ n → count_or_none n ≡ Some n
some zero h = absurd (omega arith)
some (suc n) h = refl

there : (n : ℕ) (v : List ℕ) → v ≡ decimal n → 1 ≤ n → n ≤ 99 → count_or_none (count_in 99 v) ≡ Some n
there n v q low high = ap count_or_none (count_there 99 n v q high) ∙ some n low

-- what is no count of one digit and none of two is no count
none : (v : List ℕ) → ((n : ℕ) → 1 ≤ n → n < 10 → v ≢ (48 + n) ∷ []) → ((n : ℕ) → 10 ≤ n → n < 100 → v ≢ (48 + n / 10) ∷ (48 + n % 10) ∷ [])
    → count_or_none (count_in 99 v) ≡ None
none v f g =
    ap count_or_none (count_none 99 v (λ n low high. decimal_short (λ l. v ≢ l) n (omega arith) (f n low) (λ k. g n k (omega arith))))

one : (b : ℕ) → count_or_none (count_in 99 (b ∷ [])) ≡ cond (is_digit_from 1 b) (Some (b - 48)) None
one b =
    by_test (λ o. count_or_none (count_in 99 (b ∷ [])) ≡ o) (is_digit_from 1 b)
    (λ t.
    let d = digit 1 b t in
    let spelt : b ≡ 48 + (b - 48) = omega arith in
    there (b - 48) (b ∷ []) (ap (λ x. x ∷ []) spelt ∙ sym (decimal_one (b - 48) (omega arith))) (omega arith) (omega arith))
    (λ t.
    none (b ∷ [])
    (λ n low high q.
    let is : b ≡ 48 + n = ap (λ (l : List ℕ). get_or l 0 0) q in
    grind (arith, nat_tests))
    (λ n _ _ q. cc))

two : (b c : ℕ) → count_or_none (count_in 99 (b ∷ c ∷ [])) ≡ cond (is_digit_from 1 b && is_digit_from 0 c) (Some ((b - 48) * 10 + (c - 48))) None
two b c =
    by_test (λ o. count_or_none (count_in 99 (b ∷ c ∷ [])) ≡ o) (is_digit_from 1 b && is_digit_from 0 c)
    (λ t.
    let h = (and-eq-true_iff (is_digit_from 1 b) (is_digit_from 0 c)).0 t in
    let d = digit 1 b h.0 in
    let u = digit 0 c h.1 in
    let n : ℕ = (b - 48) * 10 + (c - 48) in
    let tens : b ≡ 48 + n / 10 = omega arith in
    let units : c ≡ 48 + n % 10 = omega arith in
    there n (b ∷ c ∷ []) (ap₂ (λ i j. i ∷ j ∷ []) tens units ∙ sym (decimal_two n (omega arith) (omega arith))) (omega arith) (omega arith))
    (λ t.
    none (b ∷ c ∷ [])
    (λ n _ _ q. cc)
    (λ n low high q.
    let tens : b ≡ 48 + n / 10 = ap (λ (l : List ℕ). get_or l 0 0) q in
    let units : c ≡ 48 + n % 10 = ap (λ (l : List ℕ). get_or l 1 0) q in
    grind (arith, nat_tests)))

pub digits_count : (v : List ℕ)
    → count_or_none (count_in 99 v)
    ≡ cond (eqb (length v) 1 && is_digit_from 1 (get_or v 0 0)) (Some (get_or v 0 0 - 48))
    (cond (eqb (length v) 2 && (is_digit_from 1 (get_or v 0 0) && is_digit_from 0 (get_or v 1 0)))
    (Some ((get_or v 0 0 - 48) * 10 + (get_or v 1 0 - 48)))
    None)
digits_count [] = none [] (λ n _ _ q. cc) (λ n _ _ q. cc)
digits_count (b ∷ []) = one b
digits_count (b ∷ c ∷ []) = two b c
digits_count (b ∷ c ∷ d ∷ v) =
    let is : count_or_none (count_in 99 (b ∷ c ∷ d ∷ v)) ≡ None = none (b ∷ c ∷ d ∷ v) (λ n _ _ q. cc) (λ n _ _ q. cc) in
    grind (arith, nat_tests)

pub ruleset by_digits = (digits_count, nat_tests)

-- a smaller greatest count only leaves counts out
pub smaller_count : (most : ℕ) (v : List ℕ) → most < 100
    → count_or_none (count_in most v) ≡ option_and_then (λ n. cond (leb n most) (Some n) None) (count_or_none (count_in 99 v))
smaller_count most v small = ap count_or_none (count_within most 99 v (omega arith)) ∙ go (count_in 99 v)
  where
    go : (n : ℕ) → count_or_none (cond (leb n most) n 0) ≡ option_and_then (λ k. cond (leb k most) (Some k) None) (count_or_none n)
    go zero = by_test (λ n. count_or_none n ≡ None) (leb 0 most) (λ _. refl) (λ _. refl)
    go (suc n) = by_both (leb (suc n) most)
      where
        by_both : (t : Bool) → count_or_none (cond t (suc n) 0) ≡ cond t (Some (suc n)) None
        by_both true = refl
        by_both false = refl

pub ruleset by_number = (smaller_count, nat_tests)
