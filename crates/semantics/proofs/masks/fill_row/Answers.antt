-- `fill_row`: one block, or two one after the other. From the laws of lists.
use Rattle.std.specs.Prelude.{ℕ, ◌+◌, ◌-◌, ◌*◌, ◌<◌, ◌≡◌, List, [], ◌++◌, length, take, drop}
use Rattle.std.proofs.Common.{arith, sym, ◌∙◌, length-append, length-drop, length-take-le}
use Rattle.std.proofs.Math.Path.{ap}
use Rattle.std.proofs.lemmas.List.{length-take}
use mathlib.Core.List.{append-nil}
use borrow.Rule.Slice.PartMut.{mid_of, put_mid}
use lib.ListN.{drop_of_length-le}
use lib.Seq.{take_at, drop_at}
use Rattle.sets.specs.Tabulated.{tabulate}
use Rattle.sets.specs.Laws.Tabulated.{length_tabulate, same_entries, in_parts}
use Rattle.semantics.specs.Places.{mask_by}
use Rattle.semantics.proofs.masks.fill_row.Goals as goal

-- the first block begins at 0
from_zero : (n : ℕ) (f : ℕ → ℕ) → tabulate n (λ t. f (64 * 0 + t)) ≡ tabulate n f
from_zero n f = same_entries n (λ t. f (64 * 0 + t)) f (λ t l. ap f (omega arith))

-- a row of more than 64 entries, whose first 64 come back as `first` and the others as `second`
module _ (f : ℕ → ℕ) (row first second : List ℕ) (more : 64 < length row) (low : first ≡ tabulate (length (take 64 row)) (λ t. f (64 * 0 + t))) where
  first_is : first ≡ tabulate 64 f
  first_is = low ∙ ap (λ (n : ℕ). tabulate n (λ t. f (64 * 0 + t))) (length-take-le 64 row (omega arith)) ∙ from_zero 64 f

  first_long : length first ≡ 64
  first_long = ap length first_is ∙ length_tabulate 64 f

  rest_is : drop 64 (first ++ drop 64 row) ≡ drop 64 row
  rest_is = drop_at first (drop 64 row) 64 first_long

  left : length (first ++ drop 64 row) - 64 ≡ length row - 64
  left = omega (arith, length-append first (drop 64 row), first_long, length-drop 64 row)

  two_blocks : second ≡ tabulate (length (mid_of 64 (length (first ++ drop 64 row) - 64) (first ++ drop 64 row))) (λ t. f (64 * 1 + t))
      → put_mid 64 (length (first ++ drop 64 row) - 64) (first ++ drop 64 row) second ≡ tabulate (length row) f
  two_blocks high =
      let n : ℕ = length row - 64 in
      let mid : length (take n (drop 64 row)) ≡ n = length-take-le n (drop 64 row) (omega (arith, length-drop 64 row)) in
      let none : drop n (drop 64 row) ≡ [] = drop_of_length-le (drop 64 row) {i = n} (omega (arith, length-drop 64 row)) in
      let whole : 64 + n ≡ length row = omega arith in
      rw (high, left, rest_is, mid, none, take_at first (drop 64 row) 64 first_long, first_is, append-nil)
      (sym (in_parts 64 n f) ∙ ap (λ (k : ℕ). tabulate k f) whole)

pub slice_bounds-fill_block-end-else-row-le64 : goal.slice_bounds-fill_block-end-else-row-le64
slice_bounds-fill_block-end-else-row-le64 c = sym (length-take-le 64 c.args.row.now (omega arith))

pub fill_block-requires-else-row-le64 : goal.fill_block-requires-else-row-le64
fill_block-requires-else-row-le64 c = omega (arith, length-take 64 c.args.row.now)

pub returns-else-row-le64 : goal.returns-else-row-le64
returns-else-row-le64 c =
    let a = c.args in
    two_blocks (mask_by a.rules.text.now a.rules.parts.now a.s) a.row.now _ _ (omega arith) c.fill_block-else-row-le64.ensures c.fill_block-else-row-le64-2.ensures
