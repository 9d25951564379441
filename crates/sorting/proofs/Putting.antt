-- A loop that goes over the marked sets by number, and writes those that have so many rules: what is known after each of them. From what it is to
-- write one list more behind another, and the laws of filters.
use Rattle.std.proofs.Common.{ℕ, zero, suc, ◌+◌, ◌-◌, ◌*◌, ◌≤◌, ◌≡◌, refl, sym, ap, ap₂, ◌∙◌, Bool, true, false, cond, ◌&&◌, List, [], ◌∷◌, ◌++◌, eqb, length, filter, arith, length-append, append_assoc, append-nil}
use Rattle.std.specs.Int.Count.{ones}
use Rattle.std.proofs.Math.Bool.{and-true, and-false}
use Rattle.std.proofs.lemmas.List.Elements.{filter-append}
use borrow.Rule.Slice.PartMut.{mid_of, put_mid}
use Rattle.sets.specs.Lists.{joined, one_if, select, sized}
use Rattle.sorting.specs.Written.{Written}
use Rattle.sorting.proofs.Written.{nothing_written, same_size, fits_rest, one_more}

-- those of a list's sets that have so many rules
abbrev pub those : ℕ → List ℕ → List ℕ
those size l = filter (λ S. eqb (ones S) size) l

-- what a filter leaves of one number at most
kept : (t : Bool) (S : ℕ) → cond t (S ∷ []) [] ≡ one_if t S
unfolding one_if
kept true S = refl
kept false S = refl

one_of : (size S : ℕ) → those size (S ∷ []) ≡ one_if (eqb (ones S) size) S
one_of size S = kept (eqb (ones S) size) S

none_or_one : (p : ℕ → Bool) (t : Bool) (S : ℕ) → filter p (one_if t S) ≡ one_if (p S && t) S
unfolding one_if
none_or_one p true S = kept (p S) S ∙ ap (λ b. one_if b S) (sym (and-true (p S)))
none_or_one p false S = ap (λ b. one_if b S) (sym (and-false (p S)))

-- of the sets that pass a test, by number, those are the ones that have so many rules and pass
pub those_selected : (q : ℕ → Bool) (size n : ℕ) → those size (select q n) ≡ select (sized q size) n
unfolding select joined sized
those_selected q size zero = refl
those_selected q size (suc n) = filter-append (λ (S : ℕ). eqb (ones S) size) (select q n) (one_if (q n) n) ∙ ap₂ ◌++◌ (those_selected q size n) (none_or_one (λ (S : ℕ). eqb (ones S) size) (q n) n)

-- the sets that are done and those that are left
pub record Putting (size : ℕ) (before all done left now : List ℕ) (at : ℕ) : Type 0 where
  pub whole : done ++ left ≡ all
  pub fits : 2 * length (those size all) ≤ length before
  pub written : Written (those size done) before now at

pub started : (size : ℕ) {before all left : List ℕ} → left ≡ all → 2 * length (those size all) ≤ length before → Putting size before all [] left before 0
started size {before} e h = record { whole = e; fits = h; written = nothing_written before }

module _ {size : ℕ} {before all done left now : List ℕ} {at : ℕ} (p : Putting size before all done left now at) where
  pub ended : left ≡ [] → Written (those size all) before now at
  ended e = let same : done ≡ all = sym (ap (λ (l : List ℕ). done ++ l) e ∙ append-nil done) ∙ p.whole in rw (← same) p.written

  module _ {S : ℕ} {rest : List ℕ} (e : left ≡ S ∷ rest) where
    one : List ℕ
    one = one_if (eqb (ones S) size) S

    more : those size (done ++ S ∷ []) ≡ those size done ++ one
    unfolding one
    more = filter-append (λ (T : ℕ). eqb (ones T) size) done (S ∷ []) ∙ ap (λ (l : List ℕ). those size done ++ l) (one_of size S)

    whole_next : (done ++ S ∷ []) ++ rest ≡ all
    whole_next = append_assoc done (S ∷ []) rest ∙ ap (λ (l : List ℕ). done ++ l) (sym e) ∙ p.whole

    fits_next : 2 * length (those size done ++ one) ≤ length before
    fits_next =
        let a = ap (λ (l : List ℕ). length (those size l)) whole_next in
        let b = ap length (filter-append (λ (T : ℕ). eqb (ones T) size) (done ++ S ∷ []) rest) in
        omega (arith, p.fits, a, b, length-append (those size (done ++ S ∷ [])) (those size rest), ap length more)

    pub place_le : at ≤ length now
    place_le = omega (arith, p.written.place, same_size (those size done) one before now at p.written fits_next, length-append (those size done) one, fits_next)

    pub room : 2 * length (one_if (eqb (ones S) size) S) ≤ length (mid_of at (length now - at) now)
    unfolding one
    room = fits_rest (those size done) one before now at p.written fits_next

    module _ {part : List ℕ} {k : ℕ} (w : Written (one_if (eqb (ones S) size) S) (mid_of at (length now - at) now) part k) where
      pub sum_le : at + k ≤ length before
      unfolding one
      sum_le = omega (arith, length-append (those size done) one, fits_next, p.written.place, w.place)

      pub next : Putting size before all (done ++ S ∷ []) rest (put_mid at (length now - at) now part) (at + k)
      unfolding one
      next = record { whole = whole_next; fits = p.fits; written = rw more (one_more (those size done) one before now at p.written fits_next part k w) }
