-- `marks::table::first_marked`: the next marked set is among the marks that are left of the word, or in the words after it. From the laws of words.
use Rattle.std.proofs.Common.{ℕ, ◌+◌, ◌*◌, ◌/◌, ◌%◌, ◌^◌, ◌<◌, ◌≡◌, sym, ◌∙◌, List, get_or, arith}
use Rattle.std.specs.Int.Count.{count_trailing_zeros}
use Rattle.std.specs.Prelude.{Some, ◌≢◌}
use Rattle.sets.specs.Next.{NextFrom, next_if_any}
use Rattle.sets.specs.Laws.Next.{next_is_some, is_none_next}
use Rattle.marks.specs.Marks.{marked}
use Rattle.marks.proofs.Words.{Passed, rest_of_word, word_passed, first_one, after_passed, found_if, none_found}
use Rattle.marks.proofs.table.first_marked.Goals as goal
use Rattle.marks.proofs.table.first_marked.Goals.{then-bits-ne0, else-bits-ne0+in_ok-set}

-- what is left of the word of `from`, and the words behind it and before `words`
module _ (table : List ℕ) (from words : ℕ) (small : (w : ℕ) → get_or table w 0 < 2 ^ 64) (l : from < 64 * words) where
  nothing_before : Passed (marked table) from from
  nothing_before = record { after = omega arith; none = λ k a b. absurd (omega arith) }

  left : ℕ
  left = get_or table (from / 64) 0 / 2 ^ (from % 64)

  in_word : left ≢ 0 → NextFrom (marked table) from (64 * words) (from + count_trailing_zeros 64 left)
  unfolding left
  in_word some = first_one (rest_of_word table from (small (from / 64))) nothing_before some (64 * words) (omega arith)

  word_over : left ≡ 0 → Passed (marked table) from (64 * (from / 64 + 1))
  unfolding left
  word_over e = word_passed (rest_of_word table from (small (from / 64))) nothing_before e

  behind_word : {s : ℕ} → left ≡ 0 → Some s ≡ next_if_any (marked table) (64 * (from / 64 + 1)) (64 * words) → NextFrom (marked table) from (64 * words) s
  behind_word e said = after_passed (word_over e) (omega arith) (next_is_some _ (sym said)).2

pub returns-then-end-from : goal.returns-then-end-from
returns-then-end-from c = sym (is_none_next _ (λ k a b. absurd (omega arith)))

pub returns-in_err-set : goal.returns-in_err-set
unfolding left
returns-in_err-set c =
    let a = c.args in
    let words : ℕ = (a.end + 63) / 64 in
    let over = word_over a.table.now a.from words (λ w. omega (arith, c.type_inv.table w)) (omega arith) c.if-bits-ne0.false in
    rw c.from_residual.ensures (none_found {top = 64 * words} (omega arith) c.if-end-from.false over (sym c.in_err-set.ensures))

pub returns : goal.returns
unfolding left
returns c =
    let a = c.args in
    let words : ℕ = (a.end + 63) / 64 in
    let small : (w : ℕ) → get_or a.table.now w 0 < 2 ^ 64 = λ w. omega (arith, c.type_inv.table w) in
    c.then_some.ensures
    ∙ found_if {top = 64 * words} (omega arith) c.if-end-from.false
    (elim c.if-bits-ne0.branch [
      | then-bits-ne0 w ↦ rw w.set-is (in_word a.table.now a.from words small (omega arith) w.if-bits-ne0.true)
      | else-bits-ne0+in_ok-set w ↦ rw w.set-is (behind_word a.table.now a.from words small (omega arith) w.if-bits-ne0.false w.in_ok-set.ensures)
    ])
