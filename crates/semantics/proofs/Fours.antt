-- Four masks side by side in one word, 16 places each: which place each bit of a word goes to, what one rule more adds, and that the 16 places
-- from 16 * j on are mask j. From the places of a number and the set of the numbers that pass a test. Assumes nothing.
use Rattle.std.specs.Prelude.{ℕ, ◌+◌, ◌-◌, ◌*◌, ◌/◌, ◌%◌, ◌^◌, ◌<◌, ◌≤◌, ◌≡◌, ◌≢◌, refl, Bool, true, false, not, ◌&&◌, ◌||◌, List, [], ◌∷◌, eqb, ltb, length, get_or, take}
use Rattle.std.specs.Int.Bits.{bit_and, bit_or}
use Rattle.std.proofs.Common.{sym, ◌∙◌, arith, pow_mono, eqb-true, get_or-take}
use Rattle.std.proofs.Math.Path.{ap, ap₂}
use Rattle.std.proofs.lemmas.List.{get_or_past, length-take}
use mathlib.Core.Bool.{or-false}
use native.Mathlib.Nat.{mul-mod_left}
use Rattle.std.proofs.Math.Decide.{ℕ_discrete, dec_lt}
use borrow.Author.Tests.{ltb-true, ltb-false, eq-eqb, ne_eqb, not-false}
use lib.Pow.{shl-shr}
use Rattle.sets.specs.Bit.{has}
use Rattle.sets.specs.Laws.Bit.{has_low, has_high, has_below, has_zero}
use Rattle.sets.specs.Cores.{none_below}
use Rattle.sets.specs.Laws.Cores.{none_below_iff, false_if}
use Rattle.sets.specs.Gathered.{one as one_or_none, set_of}
use Rattle.sets.specs.Tabulated.{tabulate}
use Rattle.sets.specs.Laws.Gathered.{has_set_of, is_set_of, set_of_lt, set_of_same, set_of_none, or_set_of}

-- ---- four bits, 16 places apart

abbrev pub spread_of : ℕ → ℕ
spread_of b = set_of 64 (λ n. eqb (n % 16) 0 && has b (n / 16))

abbrev product : ℕ → ℕ
product b = bit_and (b * 0x200040008001) 0x1000100010001

-- Each of the 16 numbers of four bits computes.
computed : none_below (λ b. not (eqb (product b) (spread_of b))) 16 ≡ true
unfolding none_below set_of one_or_none has
computed = refl

pub spread_is : (b : ℕ) → b < 16 → product b ≡ spread_of b
spread_is b h =
    eqb-true (product b) (spread_of b)
    (not-false (eqb (product b) (spread_of b)) (false_if _ ((none_below_iff (λ b. not (eqb (product b) (spread_of b))) 16).0 computed b h)))

-- ---- shifted up

module _ (X i : ℕ) where
  shifted_low : (n : ℕ) → n < i → has (X * 2 ^ i) n ≡ false
  shifted_low n h =
      false_if (has (X * 2 ^ i) n)
      (λ e. has_zero n (ap (λ (S : ℕ). has S n) (sym (mul-mod_left X (2 ^ i))) ∙ has_low i (X * 2 ^ i) n h ∙ e))

  shifted_high : (n : ℕ) → has (X * 2 ^ i) (i + n) ≡ has X n
  shifted_high n = sym (has_high i (X * 2 ^ i) n) ∙ ap (λ (S : ℕ). has S n) (shl-shr X i)

-- Four bits, 16 places apart from place i on.
module _ (b i n : ℕ) (h : i < 16) (l : n < 64) where
  from_place : i ≤ n → (eqb ((n - i) % 16) 0 && has b ((n - i) / 16)) ≡ (eqb (n % 16) i && has b (n / 16))
  from_place g = go (ℕ_discrete (n % 16) i)
    where
      go : Dec (n % 16 ≡ i) → (eqb ((n - i) % 16) 0 && has b ((n - i) / 16)) ≡ (eqb (n % 16) i && has b (n / 16))
      go (yes e) =
          let q : (n - i) / 16 ≡ n / 16 = omega arith in
          rw (eq-eqb (n % 16) i e, eq-eqb ((n - i) % 16) 0 (omega arith), q)
      go (no e) = rw (ne_eqb (n % 16) i e, ne_eqb ((n - i) % 16) 0 (λ z. e (omega arith)))

  placed : has (spread_of b * 2 ^ i % 2 ^ 64) n ≡ (eqb (n % 16) i && has b (n / 16))
  placed = has_low 64 (spread_of b * 2 ^ i) n l ∙ go (ltb n i) refl
    where
      go : (c : Bool) → ltb n i ≡ c → has (spread_of b * 2 ^ i) n ≡ (eqb (n % 16) i && has b (n / 16))
      go true e =
          let g = ltb-true n i e in
          shifted_low (spread_of b) i n g ∙ rw (ne_eqb (n % 16) i (λ z. omega arith))
      go false e =
          let g = ltb-false n i e in
          let s : n ≡ i + (n - i) = omega arith in
          ap (has (spread_of b * 2 ^ i)) s ∙ shifted_high (spread_of b) i (n - i)
          ∙ has_set_of 64 (λ n. eqb (n % 16) 0 && has b (n / 16)) (n - i) (omega arith) ∙ from_place g

-- ---- the four masks of the states from t on

-- Place n has bit t + n / 16 of the word of rule n % 16.
abbrev pub in_four : (words : List ℕ) (t n : ℕ) → Bool
in_four words t n = has (get_or words (n % 16) 0) (t + n / 16)

no_bit : (k : ℕ) → has 0 k ≡ false
no_bit k = false_if (has 0 k) (has_zero k)

-- Before the first word no place has a bit.
pub no_word : (t : ℕ) → 0 ≡ set_of 64 (in_four [] t)
no_word t = set_of_none 64 ∙ set_of_same 64 _ (in_four [] t) (λ n l. sym (no_bit (t + n / 16)))

-- The next word is no other than the one at its place.
other_word : (words : List ℕ) (i k : ℕ) → k ≢ i → Dec (k < i) → get_or (take i words) k 0 ≡ get_or (take (i + 1) words) k 0
other_word words i k e (yes l) = get_or-take i words k 0 l ∙ sym (get_or-take (i + 1) words k 0 (omega arith))
other_word words i k e (no g) =
    get_or_past (take i words) k 0 (omega (arith, length-take i words))
    ∙ sym (get_or_past (take (i + 1) words) k 0 (omega (arith, length-take (i + 1) words)))

module _ (words : List ℕ) (t i : ℕ) (h : i < length words) where
  -- A place of word i has its bit, and every other place what it has of the words before.
  joined : (n : ℕ) → (in_four (take i words) t n || (eqb (n % 16) i && has (get_or words i 0) (t + n / 16))) ≡ in_four (take (i + 1) words) t n
  joined n = go (ℕ_discrete (n % 16) i)
    where
      go : Dec (n % 16 ≡ i) → (in_four (take i words) t n || (eqb (n % 16) i && has (get_or words i 0) (t + n / 16))) ≡ in_four (take (i + 1) words) t n
      go (yes e) =
          rw (eq-eqb (n % 16) i e, e, get_or_past (take i words) i 0 (omega (arith, length-take i words)), get_or-take (i + 1) words i 0 (omega arith), no_bit (t + n / 16))
          refl
      go (no e) = rw (ne_eqb (n % 16) i e, or-false) (ap (λ (w : ℕ). has w (t + n / 16)) (other_word words i (n % 16) e (dec_lt (n % 16) i)))

  pub with_word : (four bits : ℕ) → i < 16 → four ≡ set_of 64 (in_four (take i words) t) → bits ≡ spread_of (get_or words i 0 / 2 ^ t % 16)
      → bit_or four (bits * 2 ^ i % 2 ^ 64) ≡ set_of 64 (in_four (take (i + 1) words) t)
  with_word four bits few e said =
      let w = get_or words i 0 in
      rw (e, said)
      (or_set_of 64 (set_of 64 (in_four (take i words) t)) (spread_of (w / 2 ^ t % 16) * 2 ^ i % 2 ^ 64) (set_of_lt 64 (in_four (take i words) t)) (omega arith)
      ∙ set_of_same 64 _ (in_four (take (i + 1) words) t)
      (λ n l.
      ap₂ ◌||◌ (has_set_of 64 (in_four (take i words) t) n l)
      (placed (w / 2 ^ t % 16) i n few l
      ∙ ap (λ x. eqb (n % 16) i && x) (has_low 4 (w / 2 ^ t) (n / 16) (omega arith) ∙ has_high t w (n / 16)))
      ∙ joined n))

-- ---- one of the four

-- The 16 places from 16 * j on.
abbrev pub one_of_four : (four j : ℕ) → ℕ
one_of_four four j = set_of 16 (λ i. has four (16 * j + i))

pub quarter : (four j : ℕ) → four / 2 ^ (16 * j) % 65536 ≡ one_of_four four j
quarter four j =
    is_set_of 16 (four / 2 ^ (16 * j) % 65536) (λ i. has four (16 * j + i)) (omega arith)
    (λ i l. has_low 16 (four / 2 ^ (16 * j)) i l ∙ has_high (16 * j) four i)

-- A test that no number from n on passes.
below_only : (n : ℕ) (p : ℕ → Bool) → n ≤ 16 → ((i : ℕ) → n ≤ i → p i ≡ false) → set_of 16 p ≡ set_of n p
below_only n p h none = sym (is_set_of 16 (set_of n p) p (omega (arith, set_of_lt n p, pow_mono h)) (λ i _. at i (dec_lt i n)))
  where
    at : (i : ℕ) → Dec (i < n) → has (set_of n p) i ≡ p i
    at i (yes l) = has_set_of n p i l
    at i (no g) = false_if (has (set_of n p) i) (λ m. g (has_below n (set_of n p) i (set_of_lt n p) m)) ∙ sym (none i (omega arith))

-- the mask of a state, by the words of the rules
abbrev pub mask_in : (words : List ℕ) (t : ℕ) → ℕ
mask_in words t = set_of (length words) (λ i. has (get_or words i 0) t)

-- Mask j of the four is that of the state t + j.
pub mask_in_four : (words : List ℕ) (t four j : ℕ) → length words ≤ 16 → j < 4 → four ≡ set_of 64 (in_four words t)
    → set_of 16 (λ i. has four (16 * j + i)) ≡ mask_in words (t + j)
mask_in_four words t four j few h e =
    set_of_same 16 _ (λ i. has (get_or words i 0) (t + j))
    (λ i l.
    let r : (16 * j + i) % 16 ≡ i = omega arith in
    let q : (16 * j + i) / 16 ≡ j = omega arith in
    ap (λ (S : ℕ). has S (16 * j + i)) e ∙ has_set_of 64 (in_four words t) (16 * j + i) (omega arith)
    ∙ ap₂ (λ (k p : ℕ). has (get_or words k 0) (t + p)) r q)
    ∙ below_only (length words) (λ i. has (get_or words i 0) (t + j)) few
    (λ i g. ap (λ (w : ℕ). has w (t + j)) (get_or_past words i 0 g) ∙ no_bit (t + j))

-- All four, one after the other.
pub one_by_one : (four : ℕ) → four % 65536 ∷ four / 2 ^ 16 % 65536 ∷ four / 2 ^ 32 % 65536 ∷ four / 2 ^ 48 % 65536 ∷ [] ≡ tabulate 4 (one_of_four four)
unfolding tabulate
one_by_one four =
    let whole : four % 65536 ≡ four / 1 % 65536 = omega arith in
    let a = whole ∙ quarter four 0 in
    let b = quarter four 1 in
    let c = quarter four 2 in
    let d = quarter four 3 in
    cc
