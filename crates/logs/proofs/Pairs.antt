-- The masks of the pairs of neighbours of a log, met one after the other with that of its first state, leave the rules that are not broken in it. From the
-- laws of a log and of sets. Assumes nothing.
use Rattle.std.specs.Prelude.{ℕ, zero, suc, ◌+◌, ◌-◌, ◌*◌, ◌≤◌, ◌<◌, ◌≡◌, Bool, true, false, not, ◌&&◌, ◌||◌, List, length, map, get_or, take, drop, zip, fold, refl}
use Rattle.std.specs.Int.Bits.{bit_and}
use Rattle.std.proofs.Common.{sym, ap, ◌∙◌, arith, add-one, true≢false, length-drop, get_or-drop}
use Rattle.std.proofs.Math.Seq.{take_all}
use Rattle.std.proofs.Math.Path.{ap₂}
use Rattle.std.proofs.Math.Bool.{not-not}
use Rattle.std.proofs.Math.Pow.{ones_lt}
use Rattle.std.proofs.lemmas.List.{get_or_default}
use Rattle.std.proofs.lemmas.List.Sums.{fold_more}
use Rattle.std.proofs.lemmas.List.Folds.{fold-map}
use Rattle.std.proofs.lemmas.Slice.Zip.{length-zip, get_or-zip}
use Rattle.sets.specs.Bit.{has, full}
use Rattle.sets.specs.Laws.Bit.{has_minus, has_full}
use Rattle.sets.specs.Laws.Choice.{alike}
use Rattle.sets.specs.Laws.Gathered.{is_set_of, and_has}
use Rattle.systems.specs.declared.tables.Tables.{Tables}
use Rattle.systems.specs.ByTables.{HasRoom}
use Rattle.logs.specs.Log.{IsLog, is_broken, neighbours, blamed_set}
use Rattle.logs.specs.ByTables.{start_met_by, step_met_by}
use Rattle.logs.proofs.Laws.Log.{broken_first, broken_next}

module _ (masks : List ℕ) (t : Tables) (log : List ℕ) where
  -- The rule is broken in the first state or between one of the first k pairs.
  abbrev broken : ℕ → ℕ → Bool
  broken = is_broken (start_met_by masks t) (step_met_by masks) log

  abbrev pub pairs : List (ℕ × ℕ)
  pairs = zip log (drop 1 log)

  -- The second states are all but the first.
  pub second_states : take (length log - 1) (drop 1 log) ≡ drop 1 log
  second_states = take_all (length log - 1) (drop 1 log) (omega (arith, length-drop 1 log))

  -- the mask of a pair
  abbrev pub mask : ℕ × ℕ → ℕ
  mask p = get_or masks (128 * p.0 + p.1) 0

  -- The mask of the first state, and that of the first k pairs with it.
  abbrev pub first : ℕ
  first = get_or masks (128 * t.states + get_or log 0 0) 0

  abbrev met : ℕ → ℕ
  met k = fold (λ met p. bit_and met (mask p)) first (take k pairs)

  length_pairs : length pairs ≡ length log - 1
  length_pairs = omega (arith, length-zip log (drop 1 log), length-drop 1 log)

  pair_at : (k : ℕ) → k < length log - 1 → get_or pairs k (0, 0) ≡ (get_or log k 0, get_or log (suc k) 0)
  pair_at k h =
      let next : 1 + k ≡ suc k = omega arith in
      get_or-zip log (drop 1 log) k (0, 0) (omega arith) (omega (arith, length-drop 1 log))
      ∙ ap (λ (n : ℕ). (get_or log k 0, n)) (get_or-drop 1 log k 0 ∙ ap (λ (j : ℕ). get_or log j 0) next)

  -- Both states of a pair are states, so it has a mask.
  pub record HasMask (s u : ℕ) : Type 0 where
    pub first : s < 128
    pub second : u < 128
    pub within : 128 * s + u < length masks

  pub has_mask : HasRoom masks t → IsLog t.states log → (p : ℕ × ℕ) (k : ℕ) → k < length pairs → p ≡ get_or pairs k p → HasMask p.0 p.1
  has_mask room l p k h e =
      let at = e ∙ get_or_default pairs k p (0, 0) h ∙ pair_at k (omega (arith, length_pairs)) in
      let s : p.0 < t.states = rw (ap (λ (q : ℕ × ℕ). q.0) at) (l.states k (omega (arith, length_pairs))) in
      let u : p.1 < t.states = rw (ap (λ (q : ℕ × ℕ). q.1) at) (l.states (suc k) (omega (arith, length_pairs))) in
      record { first = omega (arith, room.few); second = omega (arith, room.few); within = omega (arith, room.few, room.room) }

  first_met : (i : ℕ) → has first i ≡ not (broken 0 i)
  unfolding start_met_by
  first_met i = sym (ap not (broken_first (start_met_by masks t) (step_met_by masks) log i) ∙ not-not (start_met_by masks t i (get_or log 0 0)))

  met_next : (k : ℕ) → k < length log - 1 → met (k + 1) ≡ bit_and (met k) (get_or masks (128 * get_or log k 0 + get_or log (suc k) 0) 0)
  met_next k h = fold_more (λ met p. bit_and met (mask p)) first pairs k (0, 0) (omega (arith, length_pairs)) ∙ ap (λ p. bit_and (met k) (mask p)) (pair_at k h)

  joined : (a b : Bool) → (not a && b) ≡ not (a || not b)
  joined true b = refl
  joined false true = refl
  joined false false = refl

  -- What is met has the rules that are not broken.
  met_has : (k : ℕ) → k ≤ length log - 1 → (i : ℕ) → has (met k) i ≡ not (broken k i)
  unfolding step_met_by
  met_has zero h i = first_met i
  met_has (suc k) h i =
      ap (λ (n : ℕ). has (met n) i) (sym (add-one k))
      ∙ ap (λ (S : ℕ). has S i) (met_next k (omega arith))
      ∙ and_has (met k) (get_or masks (128 * get_or log k 0 + get_or log (suc k) 0) 0) i
      ∙ ap (λ a. a && step_met_by masks i (get_or log k 0) (get_or log (suc k) 0)) (met_has k (omega arith) i)
      ∙ joined (broken k i) (step_met_by masks i (get_or log k 0) (get_or log (suc k) 0))
      ∙ sym (ap not (broken_next (start_met_by masks t) (step_met_by masks) log i k))
      ∙ ap (λ (n : ℕ). not (broken n i)) (add-one k)

  -- All others are broken.
  pub blamed_is : {all left blamed : ℕ} → all ≡ full t.rules → left ≡ fold bit_and first (map mask pairs) → blamed ≡ all - bit_and all left
      → blamed ≡ blamed_set t.rules (start_met_by masks t) (step_met_by masks) log
  unfolding blamed_set neighbours
  blamed_is a l e =
      e
      ∙ ap₂ (λ (S m : ℕ). S - bit_and S m) a l
      ∙ is_set_of t.rules _ (broken (length log - 1)) (omega (arith, ones_lt t.rules))
      (λ i l.
      alike (has (full t.rules - bit_and (full t.rules) all_met) i) (broken (length log - 1) i)
      (λ e. other (broken (length log - 1) i) ((has_minus (full t.rules) all_met i).0 e).1 (whole i))
      (λ e. (has_minus (full t.rules) all_met i).1 ((has_full t.rules i).1 l, λ m. true≢false (sym m ∙ whole i ∙ ap not e))))
    where
      all_met : ℕ
      all_met = fold bit_and first (map mask pairs)

      whole : (i : ℕ) → has all_met i ≡ not (broken (length log - 1) i)
      whole i =
          ap (λ (S : ℕ). has S i) (fold-map bit_and mask first pairs)
          ∙ ap (λ (ps : List (ℕ × ℕ)). has (fold (λ met p. bit_and met (mask p)) first ps) i) (sym (take_all (length log - 1) pairs (omega (arith, length_pairs))))
          ∙ met_has (length log - 1) (omega arith) i

      other : {a : Bool} (b : Bool) → ¬ (a ≡ true) → a ≡ not b → b ≡ true
      other true n e = refl
      other false n e = absurd (n e)
