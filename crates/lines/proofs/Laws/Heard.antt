-- The ranges of what a line gives: it is refused by a number of 1 to 8, or what it says and its bytes are within bounds.
-- From the definitions of `Lines`, by the tests that a line has passed.
use Rattle.std.specs.Prelude.{ℕ, zero, suc, ◌+◌, ◌≤◌, ◌<◌, ◌≡◌, Bool, true, false, List, ltb, length, take}
use Rattle.std.proofs.Math.Bool.{and-eq-true_iff}
use Rattle.std.proofs.Common.{arith, ltb-true}
use Rattle.sets.specs.Laws.Choice.{by_test}
use Rattle.slices.specs.Same.{same}
use Rattle.lines.specs.Decimal.{decimal}
use Rattle.lines.specs.Lines.{Line, Fault, Read, line_length, is_line, value_of, says, unless_fault, count_in, counted, count_line, fault_of, state_line}
use Rattle.lines.specs.Written.{Within}
use Rattle.lines.proofs.Laws.Numbers.{by_expression}

-- A line of the text s says v, at most `most`, and its bytes are within the text.
pub record SaysWithin (s : List ℕ) (most v bytes : ℕ) : Type 0 where
  pub small : v ≤ most
  pub within : Within 1 (length s) bytes

-- A line of the text s is refused by a number of 1 to 8, or says at most `most`.
pub data Heard (s : List ℕ) (most : ℕ) : Line ℕ → Type 0 where
  fault : (number : ℕ) → Within 1 8 number → Heard s most (Fault number)
  said : {v bytes : ℕ} → SaysWithin s most v bytes → Heard s most (Read v bytes)

-- a line that was read is not refused
pub says_of : {s : List ℕ} {most : ℕ} {l : Line ℕ} {v bytes : ℕ} → Heard s most l → l ≡ Read v bytes → SaysWithin s most v bytes
says_of (fault number h) q = cc
says_of {s} {most} {v = v} {bytes} (said {v = w} {bytes = c} h) q =
    let p : w ≡ v = cc in
    let r : c ≡ bytes = cc in
    rw (← p, ← r) h

-- the bytes of a line are within the text that it begins
pub line_within : (key s : List ℕ) → is_line key s ≡ true → line_length s < length s
unfolding is_line
line_within key s e = ltb-true (line_length s) (length s) ((and-eq-true_iff (same (take (length key) s) key) (ltb (line_length s) (length s))).0 e).1

pub bytes_within : (key s : List ℕ) → is_line key s ≡ true → Within 1 (length s) (line_length s + 1)
bytes_within key s l = omega (arith, line_within key s l)

says_heard : (key s : List ℕ) (most v : ℕ) → is_line key s ≡ true → v ≤ most → Heard s most (says v s)
unfolding says
says_heard key s most v l h = said {bytes = line_length s + 1} (record { small = h; within = bytes_within key s l })

-- ---- the counts

count_in_le : (most : ℕ) (v : List ℕ) → count_in most v ≤ most
unfolding count_in
count_in_le zero v = omega arith
count_in_le (suc n) v = by_test (λ x. x ≤ suc n) (same v (decimal (suc n))) (λ _. omega arith) (λ _. omega (arith, count_in_le n v))

counted_heard : (key s : List ℕ) (most n : ℕ) → is_line key s ≡ true → n ≤ most → Heard s most (counted n s)
unfolding counted
counted_heard key s most zero l h = fault 2 (omega arith)
counted_heard key s most (suc n) l h = says_heard key s most (suc n) l h

pub count_heard : (key : List ℕ) (most : ℕ) (s : List ℕ) → Heard s most (count_line key most s)
unfolding count_line
count_heard key most s =
    by_test (Heard s most) (is_line key s)
    (λ l. counted_heard key s most (count_in most (value_of key s)) l (count_in_le most (value_of key s)))
    (λ _. fault 1 (omega arith))

-- ---- the lines with an expression

pub fault_of_le : (n : ℕ) (capitals : Bool) (e : List ℕ) → fault_of n capitals e ≤ 8
fault_of_le n capitals e =
    by_expression n capitals e (λ x. x ≤ 8) (λ _. omega arith) (λ _ _. omega arith) (λ _ _ _. omega arith) (λ _ _ _ _. omega arith) (λ _ _ _ _. omega arith)

unless_heard : (key s : List ℕ) (most number v : ℕ) → is_line key s ≡ true → number ≤ 8 → v ≤ most → Heard s most (unless_fault Fault number (says v s))
unfolding unless_fault
unless_heard key s most zero v l h p = says_heard key s most v l p
unless_heard key s most (suc number) v l h p = fault (suc number) (omega arith)

pub state_heard : (key : List ℕ) (n : ℕ) (s : List ℕ) → Heard s (length key) (state_line key n s)
unfolding state_line
state_heard key n s =
    by_test (Heard s (length key)) (is_line key s)
    (λ l. unless_heard key s (length key) (fault_of n false (value_of key s)) (length key) l (fault_of_le n false (value_of key s)) (omega arith))
    (λ _. fault 1 (omega arith))
