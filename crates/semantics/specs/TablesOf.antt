-- The masks and tables of a model, as code holds them: for each pair of states its mask, the set of the rules whose step part it meets; for each state its
-- start mask, the set of the rules whose start part it meets; and the marks of the states that meet `init` and of the bad ones. The masks go over the list
-- that was lent for them. Assumes nothing: these are definitions.
use Rattle.std.specs.Prelude.{ℕ, ◌+◌, ◌*◌, ◌/◌, ◌%◌, ◌^◌, ◌≤◌, ◌<◌, ◌≡◌, Bool, false, cond, ◌&&◌, List, ltb, length, get_or}
use Rattle.sets.specs.Gathered.{set_of}
use Rattle.sets.specs.Tabulated.{tabulate}
use Rattle.models.specs.Written.{Described}
use Rattle.systems.specs.declared.tables.Tables.{Tables}
use Rattle.systems.specs.declared.systems.Systems.{Systems}
use Rattle.semantics.specs.declared.model_text.ModelText.{ModelText}
use Rattle.semantics.specs.ByText.{described_by}
use Rattle.semantics.specs.Meaning.{init_met, start_met, bad_of, step_met}

-- ---- the masks

-- The mask of a pair of states: the set of the rules whose step part the pair meets.
unfoldable pub mask_of : Described → ℕ → ℕ → ℕ
mask_of M s t = set_of (length M.rules) (λ i. step_met M i s t)

-- The start mask of a state: the set of the rules whose start part it meets.
unfoldable pub start_mask_of : Described → ℕ → ℕ
start_mask_of M s = set_of (length M.rules) (λ i. start_met M i s)

-- Entry t of a row of the masks: row s of a state has the masks of its pairs, and the row behind those of all states has the start masks.
unfoldable pub mask_row : Described → ℕ → ℕ → ℕ
mask_row M s t = cond (ltb s (2 ^ M.vars)) (mask_of M s t) (start_mask_of M t)

-- A table of rows over what was there before: f s t at 128 * s + t for s below `rows` and t below n. Entries that belong to no row stay as
-- they were.
unfoldable pub row_entry : (before : List ℕ) (rows n : ℕ) (f : ℕ → ℕ → ℕ) → ℕ → ℕ
row_entry before rows n f k = cond (ltb (k / 128) rows && ltb (k % 128) n) (f (k / 128) (k % 128)) (get_or before k 0)

unfoldable pub rows_of : (before : List ℕ) (rows n : ℕ) (f : ℕ → ℕ → ℕ) → List ℕ
rows_of before rows n f = tabulate (length before) (row_entry before rows n f)

-- The masks of all pairs of states and behind them the start masks, over what was there before.
unfoldable pub masks_of : (before : List ℕ) → Described → List ℕ
masks_of before M = rows_of before (2 ^ M.vars + 1) (2 ^ M.vars) (mask_row M)

-- ---- the tables beside them

-- The marks of the states below n that pass the test p: 128 entries, false from n on.
unfoldable pub marks_of : ℕ → (ℕ → Bool) → List Bool
marks_of n p = tabulate 128 (λ s. ltb s n && p s)

-- The marks of the states below n that a test passes, of which is known what it may answer at each: 128 entries, false from n on.
pub record MarksWhere (answers : ℕ → Bool → Type 0) (n : ℕ) (marks : List Bool) : Type 0 where
  pub size : length marks ≡ 128
  pub each : (s : ℕ) → s < n → answers s (get_or marks s false)
  pub past : (s : ℕ) → n ≤ s → s < 128 → get_or marks s false ≡ false

unfoldable pub tables_of : Described → Tables
tables_of M = record { rules = length M.rules; states = 2 ^ M.vars; init = marks_of (2 ^ M.vars) (init_met M); bad = marks_of (2 ^ M.vars) (bad_of M) }

-- ---- when they are filled

-- The masks and tables are those of the model that the text describes, over what was there before, which had room for them.
pub record Filled (m : ModelText) (s : Systems) : Type 0 where
  pub before : List ℕ
  pub room : 128 * (2 ^ m.model.vars + 1) ≤ length before
  pub masks_are : s.masks.now ≡ masks_of before (described_by m)
  pub tables_are : s.tables.now ≡ tables_of (described_by m)
