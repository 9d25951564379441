-- `sorting::writing::put_sized`: a set that has so many rules is the one set written, any other leaves the bytes.
use Rattle.std.proofs.Common.{ℕ, ◌*◌, ◌/◌, ◌%◌, ◌≤◌, ◌≡◌, refl, sym, ap, ◌∙◌, Bool, true, false, List, [], ◌∷◌, ◌++◌, length, drop, eq-eqb, ne_eqb}
use Rattle.std.proofs.lemmas.List.{length-take-le}
use Rattle.sets.specs.Lists.{one_if, bytes_of, overwritten}
use Rattle.sorting.specs.Written.{Written}
use Rattle.sorting.proofs.Written.{nothing_written}
use Rattle.sorting.proofs.writing.put_sized.Goals as goal

one_set : (test : Bool) (S : ℕ) {n : ℕ} → 2 * length (one_if test S) ≤ n → test ≡ true → 2 ≤ n
unfolding one_if
one_set test S h e = rw e at h

one_written : (test : Bool) (S : ℕ) {bytes : List ℕ} (lent : List ℕ) → test ≡ true → bytes ≡ S % 256 ∷ S / 256 % 256 ∷ [] → Written (one_if test S) lent (bytes ++ drop 2 lent) 2
unfolding one_if bytes_of overwritten
one_written test S lent e b = rw e (record { place = refl; bytes = ap (λ (l : List ℕ). l ++ drop 2 lent) b })

none_written : (test : Bool) (S : ℕ) (lent : List ℕ) → test ≡ false → Written (one_if test S) lent lent 0
unfolding one_if
none_written test S lent e = rw e (nothing_written lent)

pub slice_bounds-copy_from_slice-end : goal.slice_bounds-copy_from_slice-end
slice_bounds-copy_from_slice-end c = one_set _ _ c.requires (eq-eqb _ _ (sym c.size.ensures ∙ c.if-size.true))

pub slice_bounds-copy_from_slice-end-then-size : goal.slice_bounds-copy_from_slice-end-then-size
slice_bounds-copy_from_slice-end-then-size c =
    let room : 2 ≤ length c.args.lent.now = one_set _ _ c.requires (eq-eqb _ _ (sym c.size.ensures ∙ c.if-size.true)) in sym (length-take-le 2 c.args.lent.now room)

pub copy_from_slice-requires : goal.copy_from_slice-requires
copy_from_slice-requires c =
    let room : 2 ≤ length c.args.lent.now = one_set _ _ c.requires (eq-eqb _ _ (sym c.size.ensures ∙ c.if-size.true)) in
    length-take-le 2 c.args.lent.now room ∙ sym (ap length c.to_le_bytes.ensures)

pub returns-then-size : goal.returns-then-size
returns-then-size c = one_written _ _ c.args.lent.now (eq-eqb _ _ (sym c.size.ensures ∙ c.if-size.true)) (c.copy_from_slice.ensures.after ∙ c.to_le_bytes.ensures)

pub returns-else-size : goal.returns-else-size
returns-else-size c = none_written _ _ c.args.lent.now (ne_eqb _ _ (λ same. c.if-size.false (c.size.ensures ∙ same)))
