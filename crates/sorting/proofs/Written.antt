-- A loop that writes lists one after the other over lent bytes, each to the bytes from the free place on: what is known after i turns.
-- From the laws of parts of lists. Assumes nothing.
use Prim.Native.Nat.{ℕ, ◌+◌, ◌-◌, ◌*◌, ◌≤◌, ◌<◌}
use mathlib.Core.Path.{◌≡◌, refl, sym, ap, ◌∙◌}
use mathlib.Core.List.{List, [], ◌++◌, append_assoc, append-nil}
use native.Mathlib.Omega.{arith}
use borrow.Rule.Slice.PartMut.{mid_of, put_mid}
use lib.ListN.{length, take, drop, length-append, length-drop, drop_of_length-le}
use lib.Seq.{take_all, take_at, drop_at, drop-drop}
use Rattle.sets.specs.Lists.{joined, bytes_of, overwritten}
use Rattle.sets.specs.Laws.Lists.{bytes_of_append, length_bytes_of}
use Rattle.sets.specs.Laws.Growth.{joined_more, joined_le}
use Rattle.sorting.specs.Written.{Written}

pub nothing_written : (before : List ℕ) → Written [] before before 0
unfolding overwritten bytes_of
nothing_written before = record { place = refl; bytes = refl }

-- ---- a list, and one more that fits after it

module _ (l m before now : List ℕ) (at : ℕ) (w : Written l before now at) (fits : 2 * length (l ++ m) ≤ length before) where
  sum : 2 * length (l ++ m) ≡ at + 2 * length m
  sum = omega (arith, length-append l m, w.place)

  place_is : length (bytes_of l) ≡ at
  place_is = length_bytes_of l ∙ sym w.place

  pub same_size : length now ≡ length before
  unfolding overwritten
  same_size =
      ap length w.bytes ∙ length-append (bytes_of l) (drop (length (bytes_of l)) before)
      ∙ omega (arith, length-drop (length (bytes_of l)) before, sum, place_is)

  rest_is : mid_of at (length now - at) now ≡ drop at before
  unfolding overwritten
  rest_is =
      take_all (length now - at) (drop at now) (omega (arith, length-drop at now)) ∙ ap (drop at) w.bytes
      ∙ drop_at (bytes_of l) (drop (length (bytes_of l)) before) at place_is
      ∙ ap (λ (n : ℕ). drop n before) place_is

  pub fits_rest : 2 * length m ≤ length (mid_of at (length now - at) now)
  fits_rest = rw rest_is (omega (arith, length-drop at before, sum))

  pub one_more : (part : List ℕ) (n : ℕ) → Written m (mid_of at (length now - at) now) part n
      → Written (l ++ m) before (put_mid at (length now - at) now part) (at + n)
  unfolding overwritten
  one_more part n v =
      let front : take at now ≡ bytes_of l = ap (take at) w.bytes ∙ take_at (bytes_of l) (drop (length (bytes_of l)) before) at place_is in
      let none : drop (length now - at) (drop at now) ≡ [] = drop_of_length-le (drop at now) {i = length now - at} (omega (arith, length-drop at now)) in
      let end : at + length (bytes_of m) ≡ length (bytes_of l ++ bytes_of m) = omega (arith, length-append (bytes_of l) (bytes_of m), place_is) in
      record {
        place = omega (arith, sum, v.place);
        bytes = rw (front, none, append-nil, v.bytes, rest_is, drop-drop, end, bytes_of_append) (sym (append_assoc (bytes_of l) (bytes_of m) _));
      }

-- ---- the loop: i of n lists are written, and all of them fit

pub record Writing (g : ℕ → List ℕ) (n : ℕ) (before now : List ℕ) (at i : ℕ) : Type 0 where
  pub within : i ≤ n
  pub fits : 2 * length (joined g n) ≤ length before
  pub written : Written (joined g i) before now at

pub started : (g : ℕ → List ℕ) (n : ℕ) (before : List ℕ) → 2 * length (joined g n) ≤ length before → Writing g n before before 0 0
unfolding joined
started g n before h = record { within = omega arith; fits = h; written = nothing_written before }

module _ (g : ℕ → List ℕ) (n : ℕ) (before now : List ℕ) (at i : ℕ) (w : Writing g n before now at i) where
  so_far : 2 * length (joined g i) ≤ length before
  so_far = omega (arith, joined_le g i n w.within, w.fits)

  pub same_length : length now ≡ length before
  same_length = same_size (joined g i) [] before now at w.written (rw append-nil so_far)

  pub place_le : at ≤ length now
  place_le = omega (arith, w.written.place, so_far, same_length)

  next_fits : i < n → 2 * length (joined g i ++ g i) ≤ length before
  next_fits l = rw (← joined_more g i) (omega (arith, joined_le g (i + 1) n (omega arith), w.fits))

  pub room : i < n → 2 * length (g i) ≤ length (mid_of at (length now - at) now)
  room l = fits_rest (joined g i) (g i) before now at w.written (next_fits l)

  pub sum_le : i < n → (part : List ℕ) (k : ℕ) → Written (g i) (mid_of at (length now - at) now) part k → at + k ≤ length before
  sum_le l part k v = omega (arith, length-append (joined g i) (g i), next_fits l, w.written.place, v.place)

  pub next : i < n → (part : List ℕ) (k : ℕ) → Written (g i) (mid_of at (length now - at) now) part k
      → Writing g n before (put_mid at (length now - at) now part) (at + k) (i + 1)
  next l part k v =
      record {
        within = omega arith;
        fits = w.fits;
        written = rw joined_more (one_more (joined g i) (g i) before now at w.written (next_fits l) part k v);
      }

  -- lists that are passed over, since they have no set
  pub skip : (j : ℕ) → j ≤ n → joined g j ≡ joined g i → Writing g n before now at j
  skip j l e = record { within = l; fits = w.fits; written = rw e w.written }

  pub ended : n ≤ i → Written (joined g n) before now at
  ended l = let e : n ≡ i = omega (arith, w.within) in rw e w.written
