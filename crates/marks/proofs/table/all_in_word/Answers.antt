-- `marks::table::all_in_word`: the first 2 ^ rules bits of a word, or all 64. From the bits of a full set.
use Rattle.std.proofs.Common.{ℕ, ◌-◌, ◌*◌, ◌%◌, ◌^◌, ◌≤◌, ◌<◌, ◌≡◌, sym, ap, ◌∙◌, ltb, arith, lt-ltb, ltb-true, pow_mono, pow_pos}
use Rattle.std.proofs.Math.Pow.{ones_lt, shl_exact}
use Rattle.sets.specs.Laws.Choice.{alike}
use Rattle.sets.specs.Bit.{has, full}
use Rattle.sets.specs.Laws.Bit.{has_full}
use Rattle.sets.specs.Gathered.{set_of}
use Rattle.sets.specs.Laws.Gathered.{is_set_of}
use Rattle.marks.proofs.table.all_in_word.Goals as goal

-- the first n bits of a word
first_bits : (n : ℕ) → n ≤ 64 → full n ≡ set_of 64 (λ t. ltb t n)
first_bits n l =
    is_set_of 64 (full n) (λ t. ltb t n) (omega (arith, ones_lt n, pow_mono l))
    (λ t _. alike (has (full n) t) (ltb t n) (λ e. lt-ltb t n ((has_full n t).0 e)) (λ e. (has_full n t).1 (ltb-true t n e)))

-- all bits
all_bits : (n : ℕ) → 64 ≤ n → full 64 ≡ set_of 64 (λ t. ltb t n)
all_bits n l = is_set_of 64 (full 64) (λ t. ltb t n) (ones_lt 64) (λ t b. (has_full 64 t).1 b ∙ sym (lt-ltb t n (omega arith)))

few : {rules : ℕ} → rules < 6 → 2 ^ rules ≤ 32
few {rules} l = let five : rules ≤ 5 = omega arith in pow_mono five

many : {rules : ℕ} → 6 ≤ rules → 64 ≤ 2 ^ rules
many l = pow_mono l

-- the word that the shift makes
shifted : {rules n : ℕ} → n ≡ 2 ^ rules → rules < 6 → 1 * 2 ^ n % 2 ^ 64 ≡ 2 ^ n
shifted e l = shl_exact {a = 1} 1 _ 64 (omega arith) (omega (arith, e, few l)) ∙ omega arith

pub overflow_shl-result : goal.overflow_shl-result
overflow_shl-result c = omega (arith, c.set_count.ensures, few c.if-rules-lt6.true)

pub overflow_sub-result : goal.overflow_sub-result
overflow_sub-result c = omega (arith, shifted c.set_count.ensures c.if-rules-lt6.true, pow_pos c.set_count.result)

pub returns-then-rules-lt6 : goal.returns-then-rules-lt6
returns-then-rules-lt6 c =
    let e = c.set_count.ensures in
    let n : ℕ = c.set_count.result in
    ap (λ (x : ℕ). x - 1) (shifted e c.if-rules-lt6.true) ∙ first_bits n (omega (arith, e, few c.if-rules-lt6.true))
    ∙ ap (λ (k : ℕ). set_of 64 (λ t. ltb t k)) e

pub returns-else-rules-lt6 : goal.returns-else-rules-lt6
returns-else-rules-lt6 c = all_bits _ (many c.if-rules-lt6.false)
