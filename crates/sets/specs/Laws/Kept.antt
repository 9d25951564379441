-- What a set keeps of a list, and how the sets of what is kept correspond to the parts of that set: by number, by size and rule by rule.
-- By induction on the list or on the rules, by the first place and the places behind it.
use Prim.Native.Nat.{ℕ, zero, suc, ◌+◌, ◌-◌, ◌*◌, ◌/◌, ◌%◌, ◌^◌, ◌≤◌, ◌<◌, min, max}
use Rattle.std.specs.Prelude.{◌≡◌, ◌↔◌, Bool, eqb, get_or}
use Rattle.std.proofs.Math.Path.{refl, sym, ap, ap₂}
use Rattle.std.proofs.Common.{◌∙◌, true≢false, pow_pos}
use Rattle.std.proofs.Math.Bool.{true, false, cond, and-eq-true_iff}
use mathlib.Core.List.{List, [], ◌∷◌, ◌++◌, map, map-map, map-append, append-nil, append_assoc}
use native.Mathlib.Omega.{arith}
use Rattle.std.proofs.Math.Nat.{pow-suc}
use Rattle.std.proofs.Math.Decide.{dec_lt}
use Rattle.std.specs.Int.Bits.{bit_and, bit_or, and_step, or_step}
use Rattle.std.specs.Int.Count.{ones, ones_step, ones-le}
use Rattle.std.proofs.Math.ListN.{length}
use borrow.Author.Tests.{eqb-true, eqb-false, ne_eqb}
use Rattle.sets.specs.Bit.{has, full}
use Rattle.sets.specs.Laws.Bit.{has_front, has_behind, has_below, has_full}
use Rattle.sets.specs.Sets.{◌⊑◌, Before, fewer, as_many}
use Rattle.sets.specs.Laws.Sets.{part_le, part_refl, part_zero, part_antisym, part_full}
use Rattle.sets.specs.Lists.{joined, one_if, select}
use Rattle.sets.specs.Laws.Growth.{joined_agree}
use Rattle.sets.specs.Kept.{kept}
use Rattle.sets.specs.Renumbered.{old_place, spread, all_pass, all_in}

-- ---- the first place, and the places behind it

-- The first place is in the set, or it is not.
front : {P : Type 0} (U : ℕ) → (has U 0 ≡ true → U % 2 ≡ 1 → P) → (has U 0 ≡ false → U % 2 ≡ 0 → P) → P
front {P} U f g = by (has U 0) refl
  where
    by : (b : Bool) → has U 0 ≡ b → P
    by true e = f e (eqb-true (U % 2) 1 (sym (has_front U) ∙ e))
    by false e = g e (omega (arith, eqb-false (U % 2) 1 (sym (has_front U) ∙ e)))

front_same : (S T : ℕ) → S % 2 ≡ T % 2 → has S 0 ≡ has T 0
front_same S T e = has_front S ∙ ap (λ (d : ℕ). eqb d 1) e ∙ sym (has_front T)

-- A part is one at the first place and behind it.
part_front : {S T : ℕ} → S ⊑ T → S % 2 ≤ T % 2
part_front {S} {T} p =
    front S (λ e m. front T (λ _ n. omega arith) (λ n _. absurd (true≢false (sym (p.every 0 e) ∙ n)))) (λ e m. omega arith)

part_behind : {S T : ℕ} → S ⊑ T → S / 2 ⊑ T / 2
part_behind {S} {T} p = record { every = λ i e. sym (has_behind T i) ∙ p.every (suc i) (has_behind S i ∙ e) }

part_join : (S T : ℕ) → S % 2 ≤ T % 2 → S / 2 ⊑ T / 2 → S ⊑ T
part_join S T f b = record { every = at }
  where
    at : (i : ℕ) → has S i ≡ true → has T i ≡ true
    at zero e =
        front S (λ _ m. front_same T S (omega arith) ∙ e) (λ n _. absurd (true≢false (sym e ∙ n)))
    at (suc i) e = has_behind T i ∙ b.every i (sym (has_behind S i) ∙ e)

-- ---- the entries that are kept

module _ {A : Type 0} where
  kept_with : (U : ℕ) (x : A) (l : List A) → has U 0 ≡ true → kept U (x ∷ l) ≡ x ∷ kept (U / 2) l
  unfolding kept
  kept_with U x l e = ap (λ b. cond b (x ∷ kept (U / 2) l) (kept (U / 2) l)) e

  kept_without : (U : ℕ) (x : A) (l : List A) → has U 0 ≡ false → kept U (x ∷ l) ≡ kept (U / 2) l
  unfolding kept
  kept_without U x l e = ap (λ b. cond b (x ∷ kept (U / 2) l) (kept (U / 2) l)) e

  -- As many as the set has rules.
  pub length_kept : (U : ℕ) (l : List A) → U < 2 ^ length l → length (kept U l) ≡ ones U
  unfolding kept
  length_kept U [] h = omega (arith, ones-le 0 U h)
  length_kept U (x ∷ l) h =
      let half : U / 2 < 2 ^ length l = omega (arith, pow-suc 2 (length l)) in
      front U (λ e m. ap length (kept_with U x l e) ∙ omega (arith, ones_step U, length_kept (U / 2) l half))
      (λ e m. ap length (kept_without U x l e) ∙ omega (arith, ones_step U, length_kept (U / 2) l half))

-- What is kept of the changed entries is what is kept, changed.
pub map_kept : {A B : Type 0} (f : A → B) (U : ℕ) (l : List A) → kept U (map f l) ≡ map f (kept U l)
unfolding kept
map_kept f U [] = refl
map_kept f U (x ∷ l) =
    front U (λ e _. kept_with U (f x) (map f l) e ∙ ap (λ r. f x ∷ r) (map_kept f (U / 2) l) ∙ sym (ap (map f) (kept_with U x l e)))
    (λ e _. kept_without U (f x) (map f l) e ∙ map_kept f (U / 2) l ∙ sym (ap (map f) (kept_without U x l e)))

-- ---- one step of the way back

spread_with : (R U S : ℕ) → has U 0 ≡ true → spread (suc R) U S ≡ S % 2 + 2 * spread R (U / 2) (S / 2)
unfolding spread
spread_with R U S e = ap (λ b. cond b (S % 2 + 2 * spread R (U / 2) (S / 2)) (2 * spread R (U / 2) S)) e

spread_without : (R U S : ℕ) → has U 0 ≡ false → spread (suc R) U S ≡ 2 * spread R (U / 2) S
unfolding spread
spread_without R U S e = ap (λ b. cond b (S % 2 + 2 * spread R (U / 2) (S / 2)) (2 * spread R (U / 2) S)) e

-- ---- what is kept of what is kept

module _ {A : Type 0} where
  pub kept_kept : (U S : ℕ) (l : List A) → kept S (kept U l) ≡ kept (spread (length l) U S) l
  unfolding kept
  kept_kept U S [] = refl
  kept_kept U S (x ∷ l) =
      let W = spread (suc (length l)) U S in
      front U
      (λ e _.
      let step = spread_with (length l) U S e in
      let half : W / 2 ≡ spread (length l) (U / 2) (S / 2) = omega arith in
      ap (kept S) (kept_with U x l e)
      ∙ ap₂ (λ b r. cond b (x ∷ r) r) (front_same S W (omega arith))
      (kept_kept (U / 2) (S / 2) l ∙ sym (ap (λ T. kept T l) half)))
      (λ e _.
      let step = spread_without (length l) U S e in
      let half : W / 2 ≡ spread (length l) (U / 2) S = omega arith in
      ap (kept S) (kept_without U x l e) ∙ kept_kept (U / 2) S l
      ∙ sym (kept_without W x l (has_front W ∙ ne_eqb (W % 2) 1 (omega arith)) ∙ ap (λ T. kept T l) half))

  -- A test of the entries in a set of those kept is the test of the same entries in the whole list.
  pub all_in_kept : (f : A → Bool) (U S : ℕ) (l : List A) → all_in f S (kept U l) ≡ all_in f (spread (length l) U S) l
  unfolding all_in
  all_in_kept f U S l = ap (all_pass f) (kept_kept U S l)

  all_in_step : (f : A → Bool) (S : ℕ) (x : A) (l : List A)
      → (all_in f S (x ∷ l) ≡ true) ↔ ((has S 0 ≡ true → f x ≡ true) × (all_in f (S / 2) l ≡ true))
  unfolding all_in
  all_in_step f S x l =
      front S
      (λ e _.
      let both = and-eq-true_iff (f x) (all_pass f (kept (S / 2) l)) in
      rw (kept_with S x l e) (λ t. (λ _. (both.0 t).0, (both.0 t).1), λ p. both.1 (p.0 e, p.1)))
      (λ e _. rw (kept_without S x l e) (λ t. (λ m. absurd (true≢false (sym m ∙ e)), t), λ p. p.1))

  -- Place by place.
  pub all_in_iff : (f : A → Bool) (d : A) (S : ℕ) (l : List A)
      → (all_in f S l ≡ true) ↔ ((i : ℕ) → i < length l → has S i ≡ true → f (get_or l i d) ≡ true)
  unfolding all_in
  all_in_iff f d S [] = (λ e i h. absurd (omega arith), λ g. refl)
  all_in_iff f d S (x ∷ l) = (
    λ e. let r = (all_in_step f S x l).0 e in at r.0 ((all_in_iff f d (S / 2) l).0 r.1),
    λ g.
        (all_in_step f S x l).1 (
          g 0 (omega arith),
          (all_in_iff f d (S / 2) l).1 (λ i h m. g (suc i) (omega arith) (has_behind S i ∙ m)),
        ),
  )
    where
      at : (has S 0 ≡ true → f x ≡ true) → ((i : ℕ) → i < length l → has (S / 2) i ≡ true → f (get_or l i d) ≡ true)
          → (i : ℕ) → i < suc (length l) → has S i ≡ true → f (get_or (x ∷ l) i d) ≡ true
      at here later zero h m = here m
      at here later (suc i) h m = later i (omega arith) (sym (has_behind S i) ∙ m)

-- ---- the sets of what is kept, by their old numbers: parts of the set that keeps them

pub spread_below : (R U S : ℕ) → spread R U S < 2 ^ R
unfolding spread
spread_below zero U S = omega arith
spread_below (suc R) U S =
    front U (λ e _. omega (arith, spread_with R U S e, spread_below R (U / 2) (S / 2), pow-suc 2 R))
    (λ e _. omega (arith, spread_without R U S e, spread_below R (U / 2) S, pow-suc 2 R))

-- The digits of one step.
with_front : (R U S : ℕ) → has U 0 ≡ true → spread (suc R) U S % 2 ≡ S % 2
with_front R U S e = omega (arith, spread_with R U S e)

with_behind : (R U S : ℕ) → has U 0 ≡ true → spread (suc R) U S / 2 ≡ spread R (U / 2) (S / 2)
with_behind R U S e = omega (arith, spread_with R U S e)

without_front : (R U S : ℕ) → has U 0 ≡ false → spread (suc R) U S % 2 ≡ 0
without_front R U S e = omega (arith, spread_without R U S e)

without_behind : (R U S : ℕ) → has U 0 ≡ false → spread (suc R) U S / 2 ≡ spread R (U / 2) S
without_behind R U S e = omega (arith, spread_without R U S e)

pub spread_part : (R U S : ℕ) → spread R U S ⊑ U
unfolding spread
spread_part zero U S = part_zero U
spread_part (suc R) U S =
    front U
    (λ e m. part_join (spread (suc R) U S) U (omega arith) (rw (with_behind R U S e) (spread_part R (U / 2) (S / 2))))
    (λ e m.
    part_join (spread (suc R) U S) U (omega (arith, without_front R U S e)) (rw (without_behind R U S e) (spread_part R (U / 2) S)))

-- More rules are more rules by their old numbers.
pub spread_more : (R U S T : ℕ) → S ⊑ T → spread R U S ⊑ spread R U T
unfolding spread
spread_more zero U S T p = part_zero 0
spread_more (suc R) U S T p =
    front U
    (λ e _.
    part_join (spread (suc R) U S) (spread (suc R) U T) (omega (arith, with_front R U S e, with_front R U T e, part_front p))
    (rw (with_behind R U S e, with_behind R U T e) (spread_more R (U / 2) (S / 2) (T / 2) (part_behind p))))
    (λ e _.
    part_join (spread (suc R) U S) (spread (suc R) U T) (omega (arith, without_front R U S e))
    (rw (without_behind R U S e, without_behind R U T e) (spread_more R (U / 2) S T p)))

-- ---- set 0, what two sets have in common or together, and what is left

pub spread_zero : (R U : ℕ) → spread R U 0 ≡ 0
unfolding spread
spread_zero zero U = refl
spread_zero (suc R) U =
    front U (λ e _. omega (arith, spread_with R U 0 e, spread_zero R (U / 2)))
    (λ e _. omega (arith, spread_without R U 0 e, spread_zero R (U / 2)))

-- What is done to two sets digit by digit.
module _ (f g : ℕ → ℕ → ℕ) (step : (S T : ℕ) → f S T ≡ f (S / 2) (T / 2) * 2 + g (S % 2) (T % 2))
    (small : (S T : ℕ) → g (S % 2) (T % 2) < 2) (none : f 0 0 ≡ 0) where
  spread_digits : (R U S T : ℕ) → spread R U (f S T) ≡ f (spread R U S) (spread R U T)
  unfolding spread
  spread_digits zero U S T = sym none
  spread_digits (suc R) U S T =
      front U
      (λ e _.
      let half : f S T / 2 ≡ f (S / 2) (T / 2) = omega (arith, step S T, small S T) in
      let right : f (spread (suc R) U S) (spread (suc R) U T)
      ≡ f (spread R (U / 2) (S / 2)) (spread R (U / 2) (T / 2)) * 2 + g (S % 2) (T % 2) =
      step (spread (suc R) U S) (spread (suc R) U T)
      ∙ rw (with_behind R U S e, with_behind R U T e, with_front R U S e, with_front R U T e)
      in
      omega (
        arith,
        spread_with R U (f S T) e,
        ap (spread R (U / 2)) half ∙ spread_digits R (U / 2) (S / 2) (T / 2),
        right,
        step S T,
        small S T,
      ))
      (λ e _.
      let right : f (spread (suc R) U S) (spread (suc R) U T) ≡ f (spread R (U / 2) S) (spread R (U / 2) T) * 2 + g 0 0 =
      step (spread (suc R) U S) (spread (suc R) U T)
      ∙ rw (without_behind R U S e, without_behind R U T e, without_front R U S e, without_front R U T e)
      in
      omega (arith, spread_without R U (f S T) e, spread_digits R (U / 2) S T, right, step 0 0))

pub spread_and : (R U S T : ℕ) → spread R U (bit_and S T) ≡ bit_and (spread R U S) (spread R U T)
spread_and = spread_digits bit_and min and_step (λ S T. omega arith) refl

pub spread_or : (R U S T : ℕ) → spread R U (bit_or S T) ≡ bit_or (spread R U S) (spread R U T)
spread_or = spread_digits bit_or max or_step (λ S T. omega arith) refl

pub spread_minus : (R U S T : ℕ) → T ⊑ S → spread R U (S - T) ≡ spread R U S - spread R U T
unfolding spread
spread_minus zero U S T p = refl
spread_minus (suc R) U S T p =
    front U
    (λ e _.
    let half : (S - T) / 2 ≡ S / 2 - T / 2 = omega (arith, part_front p, part_le p) in
    omega (
      arith,
      spread_with R U (S - T) e,
      spread_with R U S e,
      spread_with R U T e,
      part_front p,
      part_le p,
      ap (spread R (U / 2)) half ∙ spread_minus R (U / 2) (S / 2) (T / 2) (part_behind p),
      part_le (spread_more R (U / 2) (T / 2) (S / 2) (part_behind p)),
    ))
    (λ e _.
    omega (
      arith,
      spread_without R U (S - T) e,
      spread_without R U S e,
      spread_without R U T e,
      spread_minus R (U / 2) S T p,
    ))

-- ---- a set of R rules, U: its parts are the sets of what it keeps, by their old numbers

half_below : (R U : ℕ) → U < 2 ^ suc R → U / 2 < 2 ^ R
half_below R U h = omega (arith, pow-suc 2 R)

-- A set of as many rules as U has, without its first rule where U has one, and with no rule where U is set 0.
kept_with_lt : (U S : ℕ) → U % 2 ≡ 1 → (S < 2 ^ ones U) ↔ (S / 2 < 2 ^ ones (U / 2))
kept_with_lt U S m =
    let e : ones U ≡ suc (ones (U / 2)) = omega (arith, ones_step U) in
    let twice : 2 ^ ones U ≡ 2 ^ ones (U / 2) * 2 = ap (λ (n : ℕ). 2 ^ n) e ∙ pow-suc 2 (ones (U / 2)) in
    (λ l. omega arith, λ l. omega arith)

kept_without_lt : (U S : ℕ) → U % 2 ≡ 0 → (S < 2 ^ ones U) ↔ (S < 2 ^ ones (U / 2))
kept_without_lt U S m = let e : ones U ≡ ones (U / 2) = omega (arith, ones_step U) in rw e (λ l. l, λ l. l)

kept_none : (U S : ℕ) → U < 2 ^ 0 → S < 2 ^ ones U → S ≡ 0
kept_none U S h l =
    let e : ones U ≡ 0 = omega (arith, ones-le 0 U h) in
    let one : S < 2 ^ 0 = rw e at l in
    omega arith

-- As many rules.
pub ones_spread : (R U S : ℕ) → U < 2 ^ R → S < 2 ^ ones U → ones (spread R U S) ≡ ones S
unfolding spread
ones_spread zero U S h l = ap ones (sym (kept_none U S h l))
ones_spread (suc R) U S h l =
    let W = spread (suc R) U S in
    front U
    (λ e m.
    omega (
      arith,
      ones_step W,
      ones_step S,
      with_front R U S e,
      ap ones (with_behind R U S e) ∙ ones_spread R (U / 2) (S / 2) (half_below R U h) ((kept_with_lt U S m).0 l),
    ))
    (λ e m.
    omega (
      arith,
      ones_step W,
      without_front R U S e,
      ap ones (without_behind R U S e) ∙ ones_spread R (U / 2) S (half_below R U h) ((kept_without_lt U S m).0 l),
    ))

-- In the order of the numbers.
pub spread_lt : (R U S T : ℕ) → U < 2 ^ R → T < 2 ^ ones U → S < T → spread R U S < spread R U T
unfolding spread
spread_lt zero U S T h l b = absurd (omega (arith, kept_none U T h l))
spread_lt (suc R) U S T h l b =
    front U
    (λ e m. told e (spread_lt R (U / 2) (S / 2) (T / 2) (half_below R U h) ((kept_with_lt U T m).0 l)) (dec_lt (S / 2) (T / 2)))
    (λ e m.
    omega (
      arith,
      spread_without R U S e,
      spread_without R U T e,
      spread_lt R (U / 2) S T (half_below R U h) ((kept_without_lt U T m).0 l) b,
    ))
  where
    told : has U 0 ≡ true → (S / 2 < T / 2 → spread R (U / 2) (S / 2) < spread R (U / 2) (T / 2)) → Dec (S / 2 < T / 2)
        → spread (suc R) U S < spread (suc R) U T
    told e less (yes c) = omega (arith, spread_with R U S e, spread_with R U T e, less c)
    told e less (no c) =
        let same : S / 2 ≡ T / 2 = omega arith in
        omega (arith, spread_with R U S e, spread_with R U T e, ap (spread R (U / 2)) same)

-- So in the order of the lists.
pub spread_before : (R U S T : ℕ) → U < 2 ^ R → S < 2 ^ ones U → T < 2 ^ ones U → Before S T → Before (spread R U S) (spread R U T)
spread_before R U S T h s t (fewer l) = fewer (omega (arith, ones_spread R U S h s, ones_spread R U T h t))
spread_before R U S T h s t (as_many e l) =
    as_many (ones_spread R U S h s ∙ e ∙ sym (ones_spread R U T h t)) (spread_lt R U S T h t l)

-- A part by the old numbers is a part.
pub spread_reflects : (R U S T : ℕ) → U < 2 ^ R → S < 2 ^ ones U → spread R U S ⊑ spread R U T → S ⊑ T
unfolding spread
spread_reflects zero U S T h l p = rw (kept_none U S h l) (part_zero T)
spread_reflects (suc R) U S T h l p =
    front U
    (λ e m.
    part_join S T (omega (arith, with_front R U S e, with_front R U T e, part_front p))
    (spread_reflects R (U / 2) (S / 2) (T / 2) (half_below R U h) ((kept_with_lt U S m).0 l)
    (rw (with_behind R U S e, with_behind R U T e) at (part_behind p))))
    (λ e m.
    spread_reflects R (U / 2) S T (half_below R U h) ((kept_without_lt U S m).0 l)
    (rw (without_behind R U S e, without_behind R U T e) at (part_behind p)))

pub spread_injective : (R U S T : ℕ) → U < 2 ^ R → S < 2 ^ ones U → T < 2 ^ ones U → spread R U S ≡ spread R U T → S ≡ T
spread_injective R U S T h s t e =
    part_antisym (spread_reflects R U S T h s (rw e (part_refl (spread R U T))))
    (spread_reflects R U T S h t (rw e (part_refl (spread R U T))))

-- Every part of U.
pub spread_onto : (R U T : ℕ) → U < 2 ^ R → T ⊑ U → (S : ℕ) × (S < 2 ^ ones U) × (spread R U S ≡ T)
unfolding spread
spread_onto zero U T h p = (0, pow_pos (ones U), omega (arith, part_le p))
spread_onto (suc R) U T h p =
    let r = spread_onto R (U / 2) (T / 2) (half_below R U h) (part_behind p) in
    front U
    (λ e m.
    let S = T % 2 + 2 * r.0 in
    let half : S / 2 ≡ r.0 = omega arith in (
      S,
      (kept_with_lt U S m).1 (rw half r.1),
      omega (arith, spread_with R U S e, ap (spread R (U / 2)) half ∙ r.2),
    ))
    (λ e m. (r.0, (kept_without_lt U r.0 m).1 r.1, omega (arith, spread_without R U r.0 e, r.2, part_front p)))

-- All of U, and what is left of it.
pub spread_full : (R U : ℕ) → U < 2 ^ R → spread R U (full (ones U)) ≡ U
spread_full R U h =
    let r = spread_onto R U U h (part_refl U) in
    part_antisym (spread_part R U (full (ones U)))
    (rw r.2 at (spread_more R U r.0 (full (ones U)) (part_full (ones U) r.0 r.1)))

pub spread_rest : (R U S : ℕ) → U < 2 ^ R → S < 2 ^ ones U → spread R U (full (ones U) - S) ≡ U - spread R U S
spread_rest R U S h l =
    spread_minus R U (full (ones U)) S (part_full (ones U) S l) ∙ ap (λ (x : ℕ). x - spread R U S) (spread_full R U h)

-- ---- rule by rule

old_first : (R U : ℕ) → has U 0 ≡ true → old_place (suc R) U 0 ≡ 0
unfolding old_place
old_first R U e = ap (λ b. cond b 0 (suc (old_place R (U / 2) 0))) e

old_with : (R U i : ℕ) → has U 0 ≡ true → old_place (suc R) U (suc i) ≡ suc (old_place R (U / 2) i)
unfolding old_place
old_with R U i e = ap (λ b. suc (cond b (old_place R (U / 2) i) (old_place R (U / 2) (suc i)))) e

old_without : (R U i : ℕ) → has U 0 ≡ false → old_place (suc R) U i ≡ suc (old_place R (U / 2) i)
unfolding old_place
old_without R U zero e = ap (λ b. cond b 0 (suc (old_place R (U / 2) 0))) e
old_without R U (suc i) e = ap (λ b. suc (cond b (old_place R (U / 2) i) (old_place R (U / 2) (suc i)))) e

-- What is kept stands where it stood before.
pub kept_at : {A : Type 0} (U : ℕ) (l : List A) (i : ℕ) (d : A) → get_or (kept U l) i d ≡ get_or l (old_place (length l) U i) d
unfolding kept
kept_at U [] i d = refl
kept_at U (x ∷ l) zero d =
    front U (λ e _. rw (kept_with U x l e, old_first (length l) U e))
    (λ e _. rw (kept_without U x l e, old_without (length l) U 0 e) (kept_at (U / 2) l 0 d))
kept_at U (x ∷ l) (suc i) d =
    front U (λ e _. rw (kept_with U x l e, old_with (length l) U i e) (kept_at (U / 2) l i d))
    (λ e _. rw (kept_without U x l e, old_without (length l) U (suc i) e) (kept_at (U / 2) l (suc i) d))

-- The order stays.
pub old_up : (R U i j : ℕ) → i < j → old_place R U i < old_place R U j
unfolding old_place
old_up zero U i j h = h
old_up (suc R) U i zero h = absurd (omega arith)
old_up (suc R) U zero (suc j) h =
    front U (λ e _. omega (arith, old_first R U e, old_with R U j e))
    (λ e _. omega (arith, old_without R U 0 e, old_without R U (suc j) e, old_up R (U / 2) 0 (suc j) h))
old_up (suc R) U (suc i) (suc j) h =
    front U (λ e _. omega (arith, old_with R U i e, old_with R U j e, old_up R (U / 2) i j (omega arith)))
    (λ e _. omega (arith, old_without R U (suc i) e, old_without R U (suc j) e, old_up R (U / 2) (suc i) (suc j) h))

-- A set has the rules by their new numbers that it has by their old ones.
pub has_spread : (R U S i : ℕ) → U < 2 ^ R → i < ones U → has (spread R U S) (old_place R U i) ≡ has S i
unfolding spread
has_spread zero U S i h l = absurd (omega (arith, ones-le 0 U h))
has_spread (suc R) U S zero h l =
    front U (λ e _. rw (old_first R U e) (front_same (spread (suc R) U S) S (with_front R U S e)))
    (λ e m.
    rw (old_without R U 0 e, has_behind, without_behind R U S e)
    (has_spread R (U / 2) S 0 (half_below R U h) (omega (arith, ones_step U))))
has_spread (suc R) U S (suc i) h l =
    front U
    (λ e m.
    rw (old_with R U i e, has_behind (spread (suc R) U S), with_behind R U S e)
    (has_spread R (U / 2) (S / 2) i (half_below R U h) (omega (arith, ones_step U)) ∙ sym (has_behind S i)))
    (λ e m.
    rw (old_without R U (suc i) e, has_behind (spread (suc R) U S), without_behind R U S e)
    (has_spread R (U / 2) S (suc i) (half_below R U h) (omega (arith, ones_step U))))

-- The old numbers are those of the rules that U keeps.
pub old_in : (R U i : ℕ) → U < 2 ^ R → i < ones U → has U (old_place R U i) ≡ true
old_in R U i h l =
    ap (λ (S : ℕ). has S (old_place R U i)) (sym (spread_full R U h)) ∙ has_spread R U (full (ones U)) i h l
    ∙ (has_full (ones U) i).1 l

pub old_below : (R U i : ℕ) → U < 2 ^ R → i < ones U → old_place R U i < R
old_below R U i h l = has_below R U (old_place R U i) h (old_in R U i h l)

pub old_onto : (R U j : ℕ) → U < 2 ^ R → has U j ≡ true → (i : ℕ) × (i < ones U) × (old_place R U i ≡ j)
old_onto zero U j h m = absurd (omega (arith, has_below 0 U j h m))
old_onto (suc R) U zero h m =
    front U (λ e o. (0, omega (arith, ones_step U), old_first R U e)) (λ e _. absurd (true≢false (sym m ∙ e)))
old_onto (suc R) U (suc j) h m =
    let r = old_onto R (U / 2) j (half_below R U h) (sym (has_behind U j) ∙ m) in
    front U (λ e o. (suc r.0, omega (arith, ones_step U, r.1), old_with R U r.0 e ∙ ap suc r.2))
    (λ e o. (r.0, omega (arith, ones_step U, r.1), old_without R U r.0 e ∙ ap suc r.2))

-- ---- the entries that are kept, by their places

module _ (q : ℕ → Bool) where
  -- The numbers that pass, by the first and those behind it.
  select_front : (n : ℕ) → select q (suc n) ≡ one_if (q 0) 0 ++ map suc (select (λ i. q (suc i)) n)
  unfolding select joined one_if
  select_front zero = sym (append-nil (one_if (q 0) 0))
  select_front (suc n) =
      ap (λ l. l ++ one_if (q (suc n)) (suc n)) (select_front n)
      ∙ append_assoc (one_if (q 0) 0) (map suc (select (λ i. q (suc i)) n)) (one_if (q (suc n)) (suc n))
      ∙ ap (λ l. one_if (q 0) 0 ++ l)
      (ap (λ l. map suc (select (λ i. q (suc i)) n) ++ l) (sym (one_map (q (suc n)) n))
      ∙ sym (map-append suc (select (λ i. q (suc i)) n) (one_if (q (suc n)) n)))
    where
      one_map : (b : Bool) (k : ℕ) → map suc (one_if b k) ≡ one_if b (suc k)
      one_map true k = refl
      one_map false k = refl

select_agree : (p q : ℕ → Bool) (n : ℕ) → ((i : ℕ) → p i ≡ q i) → select p n ≡ select q n
unfolding select
select_agree p q n same = joined_agree (λ i. one_if (p i) i) (λ i. one_if (q i) i) n (λ i _. ap (λ b. one_if b i) (same i))

-- They are the entries at the places that are in the set.
pub kept_select : {A : Type 0} (d : A) (U : ℕ) (l : List A) → kept U l ≡ map (λ i. get_or l i d) (select (has U) (length l))
unfolding kept select joined
kept_select d U [] = refl
kept_select {A} d U (x ∷ l) =
    go (has U 0)
    ∙ sym (ap (map at) (select_front (has U) (length l)) ∙ map-append at (one_if (has U 0) 0) (map suc (select (λ i. has U (suc i)) (length l)))
    ∙ ap (λ m. map at (one_if (has U 0) 0) ++ m) (behind ∙ sym (kept_select d (U / 2) l)))
  where
    at : ℕ → A
    at i = get_or (x ∷ l) i d

    behind : map at (map suc (select (λ i. has U (suc i)) (length l))) ≡ map (λ i. get_or l i d) (select (has (U / 2)) (length l))
    behind =
        map-map at suc (select (λ i. has U (suc i)) (length l))
        ∙ ap (map (λ i. get_or l i d)) (select_agree (λ i. has U (suc i)) (has (U / 2)) (length l) (has_behind U))

    go : (b : Bool) → cond b (x ∷ kept (U / 2) l) (kept (U / 2) l) ≡ map at (one_if b 0) ++ kept (U / 2) l
    go true = refl
    go false = refl
