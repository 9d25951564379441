-- `marks::table::mark`: one bit of one word is set, and it is the mark of that set alone. From what storing one word does to the marks.
use Rattle.std.proofs.Common.{ℕ, ◌*◌, ◌/◌, ◌%◌, ◌^◌, ◌<◌, ◌≡◌, ap, ◌∙◌, rules, cond, ◌||◌, List, eqb, length, get_or, arith, eq-eqb, ne_eqb, eqb-true}
use Rattle.std.proofs.Math.Bool.{or_comm}
use Rattle.std.proofs.Math.ListN.{set, length-set}
use Rattle.std.proofs.Math.Decide.{ℕ_discrete}
use Rattle.std.proofs.Math.Pow.{pow-lt, shl_exact}
use Rattle.std.specs.Int.Bits.{bit_or}
use Rattle.std.proofs.lemmas.Nat.{or_lt}
use Rattle.sets.specs.Laws.Choice.{alike}
use Rattle.sets.specs.Bit.{has}
use Rattle.sets.specs.Laws.Bit.{has_one}
use Rattle.sets.specs.Laws.Gathered.{or_has}
use Rattle.marks.specs.Marks.{marked, changed}
use Rattle.marks.specs.Laws.Marks.{word_stored, stored_small, is_changed}
use Rattle.marks.proofs.table.mark.Goals as goal

module _ (table : List ℕ) (S bit : ℕ) (l : S < 64 * length table) (said : bit ≡ 2 ^ (S % 64)) (small : (w : ℕ) → get_or table w 0 < 2 ^ 64) where
  one_marked : set table (S / 64) (bit_or (get_or table (S / 64) 0) bit) ≡ changed (λ T b. eqb T S || b) table
  unfolding marked
  one_marked =
      is_changed
      (record {
        size = length-set table (S / 64) (bit_or (get_or table (S / 64) 0) bit);
        at = λ T _. word_stored table (S / 64) (bit_or (get_or table (S / 64) 0) bit) (omega arith) T ∙ entry T (ℕ_discrete (T / 64) (S / 64));
      })
      (stored_small table (S / 64) (bit_or (get_or table (S / 64) 0) bit) (omega arith) small
      (or_lt 64 (get_or table (S / 64) 0) bit (small (S / 64)) (rw said (pow-lt {j = 64} (omega arith)))))
    where
      same_place : (T : ℕ) → T / 64 ≡ S / 64 → has bit (T % 64) ≡ eqb T S
      same_place T e =
          ap (λ (x : ℕ). has x (T % 64)) said
          ∙ alike (has (2 ^ (S % 64)) (T % 64)) (eqb T S) (λ m. eq-eqb T S (omega (arith, (has_one (S % 64) (T % 64)).0 m)))
          (λ m. (has_one (S % 64) (T % 64)).1 (ap (λ (x : ℕ). x % 64) (eqb-true T S m)))

      entry : (T : ℕ) → Dec (T / 64 ≡ S / 64)
          → cond (eqb (T / 64) (S / 64)) (has (bit_or (get_or table (S / 64) 0) bit) (T % 64)) (marked table T) ≡ (eqb T S || marked table T)
      entry T (yes e) =
          rw (eq-eqb (T / 64) (S / 64) e, or_has (get_or table (S / 64) 0) bit (T % 64), same_place T e, ← e)
          (or_comm (has (get_or table (T / 64) 0) (T % 64)) (eqb T S))
      entry T (no n) = rw (ne_eqb (T / 64) (S / 64) n, ne_eqb T S (λ same. n (ap (λ (x : ℕ). x / 64) same)))

pub returns : goal.returns
returns c =
    one_marked _ _ _ c.requires (shl_exact {a = 1} 1 _ 64 (omega arith) (omega arith) ∙ omega arith) (λ w. search rules)
