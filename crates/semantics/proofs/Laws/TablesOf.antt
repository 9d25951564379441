-- What an entry of the tables of a model is: the mark of a state, the mask of a pair, of which a set is a part exactly if the pair is a step of the set,
-- and the start mask of a state likewise. So the tables give each rule set the system that it means. From the laws of steps and of lists. Assumes nothing.
use Rattle.std.specs.Prelude.{ℕ, ◌+◌, ◌*◌, ◌/◌, ◌%◌, ◌^◌, ◌≤◌, ◌<◌, ◌≡◌, refl, Bool, false, List, ltb, length, get_or}
use Rattle.std.proofs.Common.{sym, ◌∙◌, pow_mono}
use Rattle.std.proofs.Math.Path.{ap, ap₂}
use Rattle.std.proofs.Math.Bool.{◌&&◌}
use native.Mathlib.Omega.{arith}
use borrow.Author.Tests.{lt-ltb, le-ltb}
use Rattle.std.specs.Int.Bits.{bit_and}
use Rattle.std.proofs.lemmas.Nat.{and_comm}
use Rattle.std.proofs.Math.Dec.{eqb}
use Rattle.sets.specs.Laws.Choice.{alike}
use Rattle.sets.specs.Gathered.{set_of}
use Rattle.sets.specs.Laws.Bit.{has_below}
use Rattle.sets.specs.Laws.Gathered.{has_set_of}
use Rattle.sets.specs.Sets.{part}
use Rattle.sets.specs.Laws.Sets.{part_iff}
use Rattle.sets.specs.Laws.Tabulated.{length_tabulate, get_d_tabulate}
use Rattle.models.specs.Written.{Described}
use Rattle.systems.specs.Laws.Compare.{Same}
use Rattle.systems.specs.ByTables.{mark_at, start_by, step_by, system_by}
use Rattle.semantics.specs.Meaning.{every_in, init_met, start_met, start_of, bad_of, step_met, step_of, system_of}
use Rattle.semantics.specs.TablesOf.{mask_of, start_mask_of, mask_row, row_entry, rows_of, masks_of, marks_of, tables_of}
use Rattle.semantics.proofs.Laws.Meaning.{every_in_iff}

-- ---- the marks

-- The mark of a state.
mark_at_lem : (n : ℕ) (p : ℕ → Bool) (s : ℕ) → s < n → n ≤ 128 → get_or (marks_of n p) s false ≡ p s
unfolding marks_of
mark_at_lem n p s h b = get_d_tabulate 128 (λ s. ltb s n && p s) false s (omega arith) ∙ rw (lt-ltb s n h)

-- ---- the masks

-- Each rule of a set passes a test exactly when the set is a part of those that pass, which is tested by what they have in common.
every_in_part : (n : ℕ) (p : ℕ → Bool) (S : ℕ) → S < 2 ^ n → eqb (bit_and (set_of n p) S) S ≡ every_in n S p
unfolding part
every_in_part n p S h =
    let passing : ℕ = set_of n p in
    ap (λ (x : ℕ). eqb x S) (and_comm passing S)
    ∙ alike (part S passing) (every_in n S p)
    (λ e. (every_in_iff n S p).1 (λ i l b. sym (has_set_of n p i l) ∙ ((part_iff S passing).0 e).every i b))
    (λ e. (part_iff S passing).1 (record { every = λ i b. let l = has_below n S i h b in has_set_of n p i l ∙ (every_in_iff n S p).0 e i l b }))

-- ---- a table of rows

module _ (before : List ℕ) (rows n : ℕ) (f : ℕ → ℕ → ℕ) where
  pub length_rows : length (rows_of before rows n f) ≡ length before
  unfolding rows_of
  length_rows = length_tabulate (length before) (row_entry before rows n f)

  pub entry_at : (s t : ℕ) → s < rows → t < n → n ≤ 128 → row_entry before rows n f (128 * s + t) ≡ f s t
  unfolding row_entry
  entry_at s t a b c =
      let e : (128 * s + t) / 128 ≡ s = omega arith in
      let g : (128 * s + t) % 128 ≡ t = omega arith in
      rw (e, g, lt-ltb s rows a, lt-ltb t n b)

  row_at : 128 * rows ≤ length before → (s t : ℕ) → s < rows → t < n → n ≤ 128 → get_or (rows_of before rows n f) (128 * s + t) 0 ≡ f s t
  unfolding rows_of
  row_at room s t a b c = get_d_tabulate (length before) (row_entry before rows n f) 0 (128 * s + t) (omega arith) ∙ entry_at s t a b c

pub length_masks : (before : List ℕ) (M : Described) → length (masks_of before M) ≡ length before
unfolding masks_of
length_masks before M = length_rows before (2 ^ M.vars + 1) (2 ^ M.vars) (mask_row M)

-- ---- the system of a set

-- A model of at most 7 bits has at most 128 states.
pub states_le : (n : ℕ) → n ≤ 7 → 2 ^ n ≤ 128
states_le n h = omega (arith, pow_mono h)

module _ (before : List ℕ) (M : Described) (few : M.vars ≤ 7) (room : 128 * (2 ^ M.vars + 1) ≤ length before) where
  abbrev states : ℕ
  states = 2 ^ M.vars

  entry : (s t : ℕ) → s < states + 1 → t < states → get_or (masks_of before M) (128 * s + t) 0 ≡ mask_row M s t
  unfolding masks_of
  entry s t a b = row_at before (states + 1) states (mask_row M) room s t a b (states_le M.vars few)

  -- The entry of a pair of states is its mask, and the entry of a state behind those its start mask.
  pub mask_at : (s t : ℕ) → s < states → t < states → get_or (masks_of before M) (128 * s + t) 0 ≡ mask_of M s t
  unfolding mask_row
  mask_at s t a b = entry s t (omega arith) b ∙ rw (lt-ltb s states a)

  pub start_mask_at : (t : ℕ) → t < states → get_or (masks_of before M) (128 * states + t) 0 ≡ start_mask_of M t
  unfolding mask_row
  start_mask_at t b = entry states t (omega arith) b ∙ rw (le-ltb states states (omega arith))

  -- The masks and tables give a set the system that it means.
  pub tables_same : (S : ℕ) → S < 2 ^ length M.rules → Same (system_by (masks_of before M) (tables_of M) S) (system_of M S)
  unfolding system_by tables_of system_of mark_at step_by start_by start_of step_of mask_of start_mask_of
  tables_same S h = record {
    size = refl;
    start = λ s l.
        ap₂ ◌&&◌ (mark_at_lem states (init_met M) s l (states_le M.vars few))
        (ap (λ (x : ℕ). eqb (bit_and x S) S) (start_mask_at s l) ∙ every_in_part (length M.rules) (λ i. start_met M i s) S h);
    step = λ s t l k. ap (λ (x : ℕ). eqb (bit_and x S) S) (mask_at s t l k) ∙ every_in_part (length M.rules) (λ i. step_met M i s t) S h;
    bad = λ s l. mark_at_lem states (bad_of M) s l (states_le M.vars few);
  }
