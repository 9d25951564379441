-- A word that keeps, place by place, the numbers below 64 that fit there: what one more place does to it. The numbers that have each rule of a set are
-- those above it, and those that have none are apart from it. From the sets gathered by tests, and the test that no place fails.
use Rattle.std.proofs.Common.{ℕ, ◌+◌, ◌<◌, ◌≡◌, sym, ◌∙◌, Bool, true, false, not, ◌&&◌, add-one, true≢false}
use Rattle.std.proofs.Math.Bool.{and_comm, not-not, and-eq-true_iff}
use Rattle.std.proofs.lemmas.Bool.{not-true, not-false}
use Rattle.std.specs.Int.Bits.{bit_and}
use Rattle.sets.specs.Laws.Choice.{alike}
use Rattle.sets.specs.Bit.{has}
use Rattle.sets.specs.Laws.Bit.{has_below}
use Rattle.sets.specs.Sets.{part, apart}
use Rattle.sets.specs.Laws.Sets.{part_iff, apart_tells}
use Rattle.sets.specs.Cores.{none_below}
use Rattle.sets.specs.Laws.Cores.{none_below_iff, false_if}
use Rattle.sets.specs.Gathered.{set_of, fits_at}
use Rattle.sets.specs.Laws.Gathered.{set_of_lt, has_set_of, set_of_same, and_set_of}

-- T does not fit at rule j of S
abbrev pub misses : (ℕ → ℕ → Bool) → ℕ → ℕ → ℕ → Bool
misses fits S T j = has S j && not (fits j T)

module _ (fits : ℕ → ℕ → Bool) (S i : ℕ) {word : ℕ} (e : word ≡ set_of 64 (λ t. none_below (misses fits S t) i)) where
  -- the set has rule i: the numbers that fit there are kept
  pub kept : {bits : ℕ} → has S i ≡ true → bits ≡ set_of 64 (fits i) → bit_and word bits ≡ set_of 64 (λ t. none_below (misses fits S t) (i + 1))
  unfolding none_below
  kept {bits} h said =
      rw (e, said, add-one)
      (and_set_of 64 (set_of 64 (λ t. none_below (misses fits S t) i)) (set_of 64 (fits i)) (set_of_lt 64 _) (set_of_lt 64 _)
      ∙ set_of_same 64 _ _
      (λ t l.
      rw (has_set_of 64 (λ t. none_below (misses fits S t) i) t l, has_set_of 64 (fits i) t l, h, not-not (fits i t))
      (and_comm (none_below (misses fits S t) i) (fits i t))))

  -- the set lacks rule i: all fit there
  pub passed : has S i ≡ false → word ≡ set_of 64 (λ t. none_below (misses fits S t) (i + 1))
  unfolding none_below
  passed h = rw (add-one, h) e

-- a set below 64 has no other rules than the first six
module _ (S : ℕ) (h : S < 64) where
  each : (fits : ℕ → ℕ → Bool) (T : ℕ) → none_below (misses fits S T) 6 ≡ true → (i : ℕ) → has S i ≡ true → fits i T ≡ true
  each fits T e i m =
      not-false (fits i T)
      (false_if (not (fits i T))
      (λ n. (none_below_iff (misses fits S T) 6).0 e i (has_below 6 S i h m) ((and-eq-true_iff (has S i) (not (fits i T))).1 (m, n))))

  pub above_fits : (T : ℕ) → fits_at (λ i t. has t i) S T ≡ part S T
  unfolding fits_at
  above_fits T =
      alike (fits_at (λ i t. has t i) S T) (part S T)
      (λ e. (part_iff S T).1 (record { every = each (λ i t. has t i) T e }))
      (λ e.
      (none_below_iff (misses (λ i t. has t i) S T) 6).1
      (λ i l b.
      let both = (and-eq-true_iff (has S i) (not (has T i))).0 b in
      true≢false (sym (((part_iff S T).0 e).every i both.0) ∙ not-true (has T i) both.1)))

  pub apart_fits : (T : ℕ) → fits_at (λ i t. not (has t i)) S T ≡ apart S T
  unfolding fits_at
  apart_fits T =
      alike (fits_at (λ i t. not (has t i)) S T) (apart S T)
      (λ e. (apart_tells S T).1 (λ s. true≢false (sym s.in_second ∙ not-true (has T s.rule) (each (λ i t. not (has t i)) T e s.rule s.in_first))))
      (λ e.
      (none_below_iff (misses (λ i t. not (has t i)) S T) 6).1
      (λ i l b.
      let both = (and-eq-true_iff (has S i) (not (not (has T i)))).0 b in
      (apart_tells S T).0 e (record { rule = i; in_first = both.0; in_second = sym (not-not (has T i)) ∙ both.1 })))
