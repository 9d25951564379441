-- `sorting::writing::write_sorted`: the sets of each size that is noted are written behind the others, and of the sizes passed over there are none.
-- From what the loop keeps.
use Rattle.std.proofs.Common.{ℕ, suc, ◌+◌, ◌-◌, ◌*◌, ◌^◌, ◌≤◌, ◌<◌, ◌≡◌, sym, ap, ◌∙◌, false, List, [], eqb, length, arith, append-nil, true≢false, eqb-true, ne_eqb}
use Rattle.std.proofs.Math.Bool.{and-eq-true_iff}
use Rattle.std.specs.Int.Count.{ones}
use borrow.Rule.Slice.PartMut.{mid_of, put_mid}
use Rattle.sets.specs.Bit.{has}
use Rattle.sets.specs.Laws.Cores.{false_if}
use Rattle.sets.specs.Lists.{joined, sized, by_size, list_of, bytes_of, overwritten}
use Rattle.sets.specs.Laws.Growth.{joined_more}
use Rattle.sets.specs.Laws.Next.{none_passing, passing_select}
use Rattle.marks.specs.Marks.{marked}
use Rattle.sorting.specs.Written.{Written, Noted}
use Rattle.sorting.proofs.Written.{started, place_le, room, sum_le, next, skip, ended}
use Rattle.sorting.proofs.writing.write_sorted.Invariants.{of, Sorting}
use Rattle.sorting.proofs.writing.write_sorted.Goals as goal
use Rattle.sorting.proofs.writing.write_sorted.Goals.{then-noted-size-eq1, else-noted-size-eq1}

module _ (table : List ℕ) (R : ℕ) where
  none_of : (noted size : ℕ) → Noted (marked table) (2 ^ R) noted → has noted size ≡ false → of table R size ≡ []
  unfolding sized
  none_of noted size n e =
      sym (passing_select (sized (marked table) size) (2 ^ R))
      ∙ none_passing (sized (marked table) size)
      (λ S _ l.
      false_if (sized (marked table) size S)
      (λ p.
      let both = (and-eq-true_iff (eqb (ones S) size) (marked table S)).0 p in
      true≢false (sym (n.each S l both.1) ∙ ap (has noted) (eqb-true (ones S) size both.0) ∙ e)))

  start : {noted : ℕ} {before : List ℕ} → Noted (marked table) (2 ^ R) noted → 2 * length (list_of R (marked table)) ≤ length before → Sorting table R noted before before 0 0
  unfolding list_of by_size
  start {noted} {before} n fits = record { sizes = n; writing = started (of table R) (suc R) before fits }

  module _ {noted : ℕ} {before now : List ℕ} {at size : ℕ} (s : Sorting table R noted before now at size) where
    write : size ≤ R → {part : List ℕ} {k : ℕ} → Written (of table R size) (mid_of at (length now - at) now) part k
        → Sorting table R noted before (put_mid at (length now - at) now part) (at + k) (size + 1)
    write l {part} {k} w = record { sizes = s.sizes; writing = next (of table R) (suc R) before now at size s.writing (omega arith) part k w }

    pass : size ≤ R → has noted size ≡ false → Sorting table R noted before now at (size + 1)
    pass l e =
        record {
          sizes = s.sizes;
          writing = skip (of table R) (suc R) before now at size s.writing (size + 1) (omega arith)
              (joined_more (of table R) size ∙ rw (none_of noted size s.sizes e) (append-nil (joined (of table R) size)));
        }

    all : R < size → now ≡ overwritten (bytes_of (list_of R (marked table))) before
    unfolding list_of by_size
    all l = (ended (of table R) (suc R) before now at size s.writing (omega arith)).bytes

pub loop-size-init : goal.loop-size-init
loop-size-init c = start _ _ c.sizes-noted.ensures c.requires

pub slice_bounds-write_sized-count : goal.slice_bounds-write_sized-count
slice_bounds-write_sized-count c = place_le _ _ _ _ _ _ c.loop-size.invariant.writing

pub slice_bounds-write_sized-start : goal.slice_bounds-write_sized-start
slice_bounds-write_sized-start c = let l = place_le _ _ _ _ _ _ c.loop-size.invariant.writing in omega arith

pub write_sized-at-requires : goal.write_sized-at-requires
write_sized-at-requires c = room _ _ _ _ _ _ c.loop-size.invariant.writing (omega (arith, c.loop-size-test.true))

pub overflow_add-at : goal.overflow_add-at
overflow_add-at c = let l = sum_le _ _ _ _ _ _ c.loop-size.invariant.writing (omega (arith, c.loop-size-test.true)) _ _ c.write_sized-at.ensures in omega arith

pub loop-size-preserved : goal.loop-size-preserved
unfolding has
loop-size-preserved c =
    let i = c.loop-size.invariant in
    elim c.if-noted-size-eq1.branch [
      | then-noted-size-eq1 w ↦ rw (w.lent-is, w.at-is) (write _ _ i c.loop-size-test.true w.write_sized-at.ensures)
      | else-noted-size-eq1 w ↦ rw (w.lent-is, w.at-is) (pass _ _ i c.loop-size-test.true (ne_eqb _ _ w.if-noted-size-eq1.false))
    ]

pub returns-after-noted-size-eq1 : goal.returns-after-noted-size-eq1
unfolding has
returns-after-noted-size-eq1 c =
    let i = c.loop-size.invariant in
    elim c.if-noted-size-eq1.branch [
      | then-noted-size-eq1 w ↦ rw w.lent-is (all _ _ (write _ _ i c.loop-size-test.true w.write_sized-at.ensures) (omega arith))
      | else-noted-size-eq1 w ↦ rw w.lent-is (all _ _ (pass _ _ i c.loop-size-test.true (ne_eqb _ _ w.if-noted-size-eq1.false)) (omega arith))
    ]
