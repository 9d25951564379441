-- The laws of numbers in base ten: the last digit stands behind the others, two numbers are written differently, and whoever writes the fewest
-- digits that hold a number writes it. From the definition, by induction on how many digits are left.
use Rattle.std.specs.Prelude.{ℕ, zero, suc, ◌+◌, ◌-◌, ◌*◌, ◌/◌, ◌%◌, ◌^◌, ◌≤◌, ◌<◌, ◌≡◌, refl, Bool, true, false, List, [], ◌∷◌, ◌++◌, ltb}
use Rattle.std.proofs.Common.{sym, ap, ◌∙◌, arith, pow-suc, sub-one, lt-ltb, le-ltb, ltb-true, ltb-false}
use Rattle.std.proofs.Math.Nat.{one-le-pow}
use Rattle.sets.specs.Laws.Choice.{by_test}
use Rattle.lines.specs.Decimal.{digits_in, decimal}

-- as many digits as the number is great are enough
enough : (a b n : ℕ) → n < a → n < b → digits_in a n ≡ digits_in b n
unfolding digits_in
enough zero b n h g = absurd (omega arith)
enough (suc a) zero n h g = absurd (omega arith)
enough (suc a) (suc b) n h g =
    by_test (λ l. l ≡ digits_in (suc b) n) (ltb n 10)
    (λ e. rw e)
    (λ e.
    let more : 10 ≤ n = ltb-false n 10 e in
    rw e (ap (λ l. l ++ (48 + n % 10) ∷ []) (enough a b (n / 10) (omega arith) (omega arith))))

-- one digit
pub decimal_one : (n : ℕ) → n < 10 → decimal n ≡ (48 + n) ∷ []
unfolding decimal
decimal_one n h = rw (lt-ltb n 10 h)

-- more than one: the last digit stands behind the others
decimal_more : (n : ℕ) → 10 ≤ n → decimal n ≡ decimal (n / 10) ++ (48 + n % 10) ∷ []
unfolding decimal
decimal_more n h = rw (le-ltb n 10 h) (ap (λ l. l ++ (48 + n % 10) ∷ []) (enough n (suc (n / 10)) (n / 10) (omega arith) (omega arith)))

-- two digits
pub decimal_two : (n : ℕ) → 10 ≤ n → n < 100 → decimal n ≡ (48 + n / 10) ∷ (48 + n % 10) ∷ []
decimal_two n h g = decimal_more n h ∙ ap (λ l. l ++ (48 + n % 10) ∷ []) (decimal_one (n / 10) (omega arith))

-- what is true of one digit and of two is true of a number below 100
pub decimal_short : (P : List ℕ → Type 0) (n : ℕ) → n < 100 → (n < 10 → P ((48 + n) ∷ []))
    → (10 ≤ n → P ((48 + n / 10) ∷ (48 + n % 10) ∷ [])) → P (decimal n)
decimal_short P n h f g = by (ltb n 10) refl
  where
    by : (t : Bool) → ltb n 10 ≡ t → P (decimal n)
    by true e = let one : n < 10 = ltb-true n 10 e in rw (decimal_one n one) (f one)
    by false e = let more : 10 ≤ n = ltb-false n 10 e in rw (decimal_two n more h) (g more)

-- Where d writes as many of the last digits as it is told, and k is the fewest digits that hold n, what d writes is the number.
pub spelled : (k n : ℕ) → 1 ≤ k → n < 10 ^ k → (1 < k → 10 ^ (k - 1) ≤ n)
    → (d : ℕ → ℕ → List ℕ) → ((m : ℕ) → d zero m ≡ []) → ((j m : ℕ) → d (suc j) m ≡ d j (m / 10) ++ (48 + m % 10) ∷ [])
    → d k n ≡ decimal n
spelled zero n some below least d none more = absurd (omega arith)
spelled (suc zero) n some below least d none more =
    let last : n % 10 ≡ n = omega arith in
    more 0 n ∙ rw (none, last) (sym (decimal_one n (omega arith)))
spelled (suc (suc j)) n some below least d none more =
    let holds : 10 ^ suc j ≤ n = rw sub-one at (least (omega arith)) in
    more (suc j) n
    ∙ ap (λ l. l ++ (48 + n % 10) ∷ [])
    (spelled (suc j) (n / 10) (omega arith) (omega (arith, pow-suc 10 (suc j))) (λ _. rw sub-one (omega (arith, pow-suc 10 j))) d none more)
    ∙ sym (decimal_more n (omega (arith, pow-suc 10 j, one-le-pow j 10 (omega arith))))

-- ---- two numbers are written differently

-- the number whose digits follow those of the number `before`
from_digits : ℕ → List ℕ → ℕ
from_digits before [] = before
from_digits before (d ∷ l) = from_digits (before * 10 + (d - 48)) l

from_digits_more : (before : ℕ) (l : List ℕ) (d : ℕ) → from_digits before (l ++ d ∷ []) ≡ from_digits before l * 10 + (d - 48)
unfolding from_digits
from_digits_more before [] d = refl
from_digits_more before (x ∷ l) d = from_digits_more (before * 10 + (x - 48)) l d

from_digits_digits_in : (most n : ℕ) → n < most → from_digits 0 (digits_in most n) ≡ n
unfolding digits_in from_digits
from_digits_digits_in zero n h = absurd (omega arith)
from_digits_digits_in (suc most) n h =
    by_test (λ l. from_digits 0 l ≡ n) (ltb n 10)
    (λ _. omega arith)
    (λ e.
    let more : 10 ≤ n = ltb-false n 10 e in
    from_digits_more 0 (digits_in most (n / 10)) (48 + n % 10) ∙ rw (from_digits_digits_in most (n / 10) (omega arith)) (omega arith))

pub decimal_apart : (a b : ℕ) → decimal a ≡ decimal b → a ≡ b
unfolding decimal
decimal_apart a b q = sym (from_digits_digits_in (suc a) a (omega arith)) ∙ ap (from_digits 0) q ∙ from_digits_digits_in (suc b) b (omega arith)
