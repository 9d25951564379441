-- A loop that clears marks word by word, the same bits in each word that it visits: the table before the first word, after one more, and at
-- the end. From what storing one word does to the marks. Assumes nothing.
use Prim.Native.Nat.{ℕ, ◌-◌, ◌*◌, ◌/◌, ◌%◌, ◌^◌, ◌<◌}
use mathlib.Core.Path.{◌≡◌, refl, sym, ap, ◌∙◌}
use mathlib.Core.Logic.{◌≢◌}
use mathlib.Core.Bool.{Bool, true, false, cond, not, ◌&&◌, and-true}
use mathlib.Core.List.{List}
use native.Mathlib.Omega.{arith}
use native.Mathlib.Decide.{ℕ_discrete}
use borrow.Author.Tests.{eq-eqb, ne_eqb}
use lib.Bits.{bit_and, and_le_l}
use lib.Dec.{eqb}
use lib.ListN.{length, get_or, set, length-set}
use Rattle.sets.specs.Bit.{has, full}
use Rattle.sets.specs.Laws.Gathered.{and_has, rest_has}
use Rattle.marks.specs.Marks.{marked, changed}
use Rattle.marks.specs.Laws.Marks.{word_stored, stored_small, is_changed}

-- the bits are cleared in the words whose places pass P
pub record Cleared (P : ℕ → Bool) (bits : ℕ) (before after : List ℕ) : Type 0 where
  pub size : length after ≡ length before
  pub at : (S : ℕ) → S < 64 * length before → marked after S ≡ (marked before S && not (P (S / 64) && has bits (S % 64)))
  pub words : (w : ℕ) → get_or after w 0 < 2 ^ 64

pub none_cleared : (P : ℕ → Bool) (bits : ℕ) (table : List ℕ) → ((w : ℕ) → get_or table w 0 < 2 ^ 64) → ((u : ℕ) → P u ≡ false) → Cleared P bits table table
none_cleared P bits table small none = record { size = refl; at = λ S l. rw (none (S / 64)) (sym (and-true (marked table S))); words = small }

module _ (P Q : ℕ → Bool) (bits : ℕ) (before table : List ℕ) (c : Cleared P bits before table) (w : ℕ) (l : w < length table) (b : bits < 2 ^ 64)
    (p : P w ≡ false) (q : Q w ≡ true) (same : (u : ℕ) → u ≢ w → P u ≡ Q u) where
  pub one_cleared : Cleared Q bits before (set table w (bit_and (get_or table w 0) (full 64 - bits)))
  unfolding marked
  one_cleared =
      record {
        size = length-set table w (bit_and (get_or table w 0) (full 64 - bits)) ∙ c.size;
        at = λ S h. word_stored table w (bit_and (get_or table w 0) (full 64 - bits)) l S ∙ entry S h (ℕ_discrete (S / 64) w);
        words = stored_small table w (bit_and (get_or table w 0) (full 64 - bits)) l c.words (omega (arith, and_le_l (get_or table w 0) (full 64 - bits), c.words w));
      }
    where
      here : (S : ℕ) → S < 64 * length before → S / 64 ≡ w → has (get_or table w 0) (S % 64) ≡ marked before S
      here S h e =
          ap (λ (u : ℕ). has (get_or table u 0) (S % 64)) (sym e) ∙ c.at S h
          ∙ ap (λ x. marked before S && not (x && has bits (S % 64))) (ap P e ∙ p) ∙ and-true (marked before S)

      entry : (S : ℕ) → S < 64 * length before → Dec (S / 64 ≡ w)
          → cond (eqb (S / 64) w) (has (bit_and (get_or table w 0) (full 64 - bits)) (S % 64)) (marked table S)
          ≡ (marked before S && not (Q (S / 64) && has bits (S % 64)))
      entry S h (yes e) =
          rw (eq-eqb (S / 64) w e, and_has (get_or table w 0) (full 64 - bits) (S % 64), rest_has 64 bits b (S % 64) (omega arith), here S h e, e, q)
      entry S h (no n) =
          rw (ne_eqb (S / 64) w n)
          (c.at S h ∙ ap (λ x. marked before S && not (x && has bits (S % 64))) (same (S / 64) n))

-- at the end: the words that were visited and the bits tell which sets are cleared
module _ (q : ℕ → Bool) (P : ℕ → Bool) (bits : ℕ) (before after : List ℕ) (c : Cleared P bits before after) where
  pub all_cleared : ((S : ℕ) → S < 64 * length before → (P (S / 64) && has bits (S % 64)) ≡ q S) → after ≡ changed (λ S b. b && not (q S)) before
  all_cleared told = is_changed (record { size = c.size; at = λ S l. c.at S l ∙ ap (λ x. marked before S && not x) (told S l) }) c.words
