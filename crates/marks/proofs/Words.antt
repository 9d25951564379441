-- The marks from a set on as the bits of what is left of one word: it is 0 or has its first one at the next marked set.
-- From the bits of words. Assumes nothing.
use Prim.Native.Nat.{ℕ, ◌+◌, ◌-◌, ◌*◌, ◌/◌, ◌%◌, ◌^◌, ◌≤◌, ◌<◌}
use mathlib.Core.Path.{◌≡◌, refl, sym, ap, ◌∙◌}
use mathlib.Core.Logic.{◌≢◌}
use mathlib.Core.Bool.{Bool, true, false}
use Rattle.std.specs.Prelude.{Some, None, length, ltb}
use Rattle.std.specs.Bool.{then_some}
use borrow.Author.Tests.{ltb-true, ltb-false}
use Rattle.std.specs.List.{AllWithin, HoldsAt, between}
use Rattle.std.proofs.lemmas.List.Edits.{get_or-between, length-between}
use mathlib.Core.List.{List}
use native.Mathlib.Omega.{arith}
use native.Mathlib.Decide.{dec_lt}
use native.Mathlib.Nat.{div-le_self}
use lib.ListN.{get_or}
use lib.Count.{count_trailing_zeros}
use Rattle.sets.specs.Bit.{has}
use Rattle.sets.specs.Laws.Bit.{has_high, has_below, has_zero}
use Rattle.sets.specs.Laws.Cores.{false_if}
use Rattle.sets.specs.Laws.First.{first_has, first_least}
use Rattle.sets.specs.Next.{NextFrom, next_if_any}
use Rattle.sets.specs.Laws.Next.{is_some_next, is_none_next, next_is_none}
use Rattle.marks.specs.Marks.{marked}

-- no number from the place on and before s passes
pub record Passed (p : ℕ → Bool) (from s : ℕ) : Type 0 where
  pub after : from ≤ s
  pub none : (k : ℕ) → from ≤ k → k < s → p k ≡ false

-- from s on and below `top` the marks are the bits of x
pub record BitsOf (table : List ℕ) (s top x : ℕ) : Type 0 where
  pub end : s ≤ top
  pub small : x < 2 ^ 64
  pub each : (k : ℕ) → s ≤ k → k < top → marked table k ≡ has x (k - s)
  pub inside : (t : ℕ) → has x t ≡ true → s + t < top

pub whole_word : (table : List ℕ) (w : ℕ) → get_or table w 0 < 2 ^ 64 → BitsOf table (64 * w) (64 * (w + 1)) (get_or table w 0)
unfolding marked
whole_word table w small =
    record {
      end = omega arith;
      small = small;
      each = λ k a b.
          let high : k / 64 ≡ w = omega arith in
          let low : k % 64 ≡ k - 64 * w = omega arith in
          rw (high, low);
      inside = λ t m. omega (arith, has_below 64 (get_or table w 0) t small m);
    }

pub rest_of_word : (table : List ℕ) (s : ℕ) → get_or table (s / 64) 0 < 2 ^ 64
    → BitsOf table s (64 * (s / 64 + 1)) (get_or table (s / 64) 0 / 2 ^ (s % 64))
unfolding marked
rest_of_word table s small =
    record {
      end = omega arith;
      small = omega (arith, div-le_self (get_or table (s / 64) 0) (2 ^ (s % 64)));
      each = λ k a b.
          let high : k / 64 ≡ s / 64 = omega arith in
          let low : k % 64 ≡ s % 64 + (k - s) = omega arith in
          rw (high, low) (sym (has_high (s % 64) (get_or table (s / 64) 0) (k - s)));
      inside = λ t m. omega (arith, has_below 64 (get_or table (s / 64) 0) (s % 64 + t) small (sym (has_high (s % 64) (get_or table (s / 64) 0) t) ∙ m));
    }

module _ {table : List ℕ} {s top x : ℕ} (b : BitsOf table s top x) {from : ℕ} (p : Passed (marked table) from s) where
  pub word_passed : x ≡ 0 → Passed (marked table) from top
  word_passed e = record { after = omega (arith, p.after, b.end); none = λ k a l. at k a l (dec_lt k s) }
    where
      at : (k : ℕ) → from ≤ k → k < top → Dec (k < s) → marked table k ≡ false
      at k a l (yes y) = p.none k a y
      at k a l (no n) = b.each k (omega arith) l ∙ ap (λ (y : ℕ). has y (k - s)) e ∙ false_if (has 0 (k - s)) (has_zero (k - s))

  pub first_one : x ≢ 0 → (end : ℕ) → top ≤ end → NextFrom (marked table) from end (s + count_trailing_zeros 64 x)
  first_one some end l =
      let one = first_has 64 x some b.small in
      let below = b.inside (count_trailing_zeros 64 x) one in
      let same : s + count_trailing_zeros 64 x - s ≡ count_trailing_zeros 64 x = omega arith in
      record {
        within = omega arith;
        after = λ _. omega (arith, p.after);
        passes = λ _. b.each (s + count_trailing_zeros 64 x) (omega arith) below ∙ ap (has x) same ∙ one;
        passed = λ k a h. at below k a h (dec_lt k s);
      }
    where
      at : s + count_trailing_zeros 64 x < top → (k : ℕ) → from ≤ k → k < s + count_trailing_zeros 64 x → Dec (k < s) → marked table k ≡ false
      at below k a h (yes y) = p.none k a y
      at below k a h (no n) = b.each k (omega arith) (omega arith) ∙ first_least 64 x (k - s) (omega arith)

-- the next number that passes, after some that do not
pub after_passed : {p : ℕ → Bool} {from s end r : ℕ} → Passed p from s → s ≤ end → NextFrom p s end r → NextFrom p from end r
after_passed {p} {from} {s} {end} {r} q l f =
    record { within = f.within; after = λ _. omega (arith, q.after, f.after l); passes = f.passes; passed = λ k a h. at k a h (dec_lt k s) }
  where
    at : (k : ℕ) → from ≤ k → k < r → Dec (k < s) → p k ≡ false
    at k a h (yes y) = q.none k a y
    at k a h (no n) = f.passed k (omega arith) h

-- the words from `word` on and before `words`, of which the first so many are empty
module _ (table : List ℕ) (word words : ℕ) (l : words ≤ length table) where
  words_passed : (n : ℕ) → word + n ≤ words → AllWithin (λ (x : ℕ). x ≡ 0) (between word words table) 0 n → Passed (marked table) (64 * word) (64 * (word + n))
  unfolding marked
  words_passed n m empty =
      record {
        after = omega arith;
        none = λ k a b.
            let here : word + (k / 64 - word) ≡ k / 64 = omega arith in
            let e = sym (get_or-between table word words (k / 64 - word) 0 (omega arith)) ∙ empty (k / 64 - word) 0 (omega arith) (omega arith) in
            rw (rw here at e) (false_if (has 0 (k % 64)) (has_zero (k % 64)));
      }

  pub all_empty : word ≤ words → AllWithin (λ (x : ℕ). x ≡ 0) (between word words table) 0 (length (between word words table))
      → None ≡ next_if_any (marked table) (64 * word) (64 * words)
  all_empty h empty =
      let n : word + length (between word words table) ≡ words = omega (arith, length-between {X = ℕ}) in
      let q = words_passed (length (between word words table)) (omega arith) empty in
      sym (is_none_next _ (λ k a b. q.none k a (omega arith)))

  pub first_filled : ((w : ℕ) → get_or table w 0 < 2 ^ 64)
      → (n : ℕ) → (n < length (between word words table)) × HoldsAt (λ (x : ℕ). x ≢ 0) (between word words table) n × AllWithin (λ (x : ℕ). x ≡ 0) (between word words table) 0 n
      → Some (64 * (word + n) + count_trailing_zeros 64 (get_or table (word + n) 0)) ≡ next_if_any (marked table) (64 * word) (64 * words)
  first_filled small n f =
      let m : word + n < words = omega (arith, length-between {X = ℕ}) in
      let some : get_or table (word + n) 0 ≢ 0 = rw (← get_or-between table word words n 0 m) (f.1 0) in
      let here = whole_word table (word + n) (small (word + n)) in
      let q = words_passed n (omega arith) f.2 in
      let next = first_one here q some (64 * words) (omega arith) in
      let below = here.inside (count_trailing_zeros 64 (get_or table (word + n) 0)) (first_has 64 (get_or table (word + n) 0) some (small (word + n))) in
      sym (is_some_next _ (next.after (omega arith)) (omega arith) next)

-- what is said of the next number below a nearer end, if there is one
module _ {p : ℕ → Bool} {from end top : ℕ} (l : end ≤ top) (s : from < end) where
  pub found_if : {r : ℕ} → NextFrom p from top r → then_some (ltb r end) r ≡ next_if_any p from end
  found_if {r} f = at (ltb r end) refl
    where
      at : (b : Bool) → ltb r end ≡ b → then_some b r ≡ next_if_any p from end
      at true h =
          let below : r < end = ltb-true r end h in
          sym
          (is_some_next p (f.after (omega arith)) below (record { within = omega arith; after = λ a. f.after (omega arith); passes = λ _. f.passes (omega arith); passed = f.passed }))
      at false h = let past : end ≤ r = ltb-false r end h in sym (is_none_next p (λ k a b. f.passed k a (omega arith)))

  pub none_found : {s : ℕ} → Passed p from s → next_if_any p s top ≡ None → None ≡ next_if_any p from end
  none_found {s} q e = sym (is_none_next p (λ k a b. at k a b (dec_lt k s)))
    where
      at : (k : ℕ) → from ≤ k → k < end → Dec (k < s) → p k ≡ false
      at k a b (yes y) = q.none k a y
      at k a b (no n) = next_is_none p e k (omega arith) (omega arith)
