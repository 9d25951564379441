-- How a loop fills the masks and marks: the list before the first turn, and what one turn adds.
-- From the laws of lists given entry by entry. Assumes nothing.
use Rattle.std.specs.Prelude.{ℕ, ◌+◌, ◌-◌, ◌*◌, ◌/◌, ◌%◌, ◌<◌, ◌≤◌, ◌≡◌, ◌≢◌, refl, Bool, true, false, ◌&&◌, List, ◌++◌, ltb, length, get_or, take, drop, set, replicate}
use Rattle.std.proofs.Common.{sym, ◌∙◌, arith, lt-ltb, le-ltb, append_assoc, length-append, length-drop, length-take-le}
use Rattle.std.proofs.Math.Path.{ap, ap₂, subst}
use Rattle.std.proofs.lemmas.List.{length-take, length-set, length-replicate, get_or-replicate, get_or-set_same, get_or-set_other, get_or-append_right, get_or-drop}
use Rattle.std.proofs.Math.ListN.{get_or-append}
use Rattle.std.proofs.Math.Decide.{dec_lt, ℕ_discrete}
use Prim.Native.Nat.{zero-le}
use mathlib.Core.Bool.{and-false}
use mathlib.Core.List.{append-nil}
use borrow.Author.Tests.{ltb-true}
use borrow.Rule.Slice.PartMut.{put_mid}
use lib.ListN.{drop_of_length-le}
use lib.Seq.{take_at, drop_at, drop-drop}
use Rattle.sets.specs.Tabulated.{tabulate}
use Rattle.sets.specs.Laws.Tabulated.{length_tabulate, tabulated, same_entries, next_stored, in_parts, part_stored, below_next}
use Rattle.semantics.specs.TablesOf.{marks_of, MarksWhere, row_entry, rows_of}
use Rattle.semantics.proofs.Laws.TablesOf.{entry_at, length_rows}

-- ---- the marks

-- The first s of n marks are those that a test passes, of which is known what it may answer at each.
pub record MarkedTo (answers : ℕ → Bool → Type 0) (n : ℕ) (marks : List Bool) (s : ℕ) : Type 0 where
  pub size : length marks ≡ n
  pub each : (t : ℕ) → t < s → answers t (get_or marks t false)

pub none_marked : (answers : ℕ → Bool → Type 0) (n : ℕ) (marks : List Bool) → length marks ≡ n → MarkedTo answers n marks 0
none_marked answers n marks e = record { size = e; each = λ t h. absurd (omega arith) }

module _ (answers : ℕ → Bool → Type 0) (n : ℕ) (marks : List Bool) (s : ℕ) (h : MarkedTo answers n marks s) where
  pub one_marked : (b : Bool) → s < length marks → answers s b → MarkedTo answers n (set marks s b) (s + 1)
  one_marked b l said = record { size = length-set marks s b ∙ h.size; each = λ t g. at t g (ℕ_discrete t s) }
    where
      at : (t : ℕ) → t < s + 1 → Dec (t ≡ s) → answers t (get_or (set marks s b) t false)
      at t g (yes e) = rw (e, get_or-set_same marks s b false l) said
      at t g (no d) = rw (get_or-set_other marks s t b false d) (h.each t (omega arith))

  -- all n have come back as a part of the array, whose other entries stay false
  pub all_marked : n ≤ s → n ≤ 128 → MarksWhere answers n (marks ++ drop n (replicate 128 false))
  all_marked l few = record {
    size = length-append marks (drop n (replicate 128 false)) ∙ omega (arith, h.size, length-drop n (replicate 128 false), length-replicate {A = Bool} 128 false);
    each = λ t g. rw (get_or-append marks (drop n (replicate 128 false)) false t (omega (arith, h.size))) (h.each t (omega arith));
    past = λ t g k.
        get_or-append_right marks (drop n (replicate 128 false)) n t false h.size g
        ∙ get_or-drop n (replicate 128 false) (t - n) false ∙ get_or-replicate 128 (n + (t - n)) false false (omega arith);
  }

-- where the test may answer nothing but what p says, the marks are those of p
pub marks_told : {answers : ℕ → Bool → Type 0} {n : ℕ} {marks : List Bool} → MarksWhere answers n marks → (p : ℕ → Bool)
    → ((s : ℕ) (b : Bool) → answers s b → b ≡ p s) → marks ≡ marks_of n p
unfolding marks_of
marks_told {n = n} {marks = marks} h p told = tabulated 128 (λ s. ltb s n && p s) false marks h.size (λ s l. at s l (dec_lt s n))
  where
    at : (s : ℕ) → s < 128 → Dec (s < n) → get_or marks s false ≡ (ltb s n && p s)
    at s _ (yes l) = rw (lt-ltb s n l) (told s (get_or marks s false) (h.each s l))
    at s few (no g) = rw (le-ltb s n (omega arith)) (h.past s (omega arith) few)

-- ---- a list that is filled from the front on

-- The first t entries are given by f, and the others are as they came.
pub record FilledTo (f : ℕ → ℕ) (row₀ row : List ℕ) (t : ℕ) : Type 0 where
  pub within : t ≤ length row
  pub kept : length row ≡ length row₀
  pub entries : row ≡ tabulate t f ++ drop t row₀

pub none_filled : (f : ℕ → ℕ) (row : List ℕ) → FilledTo f row row 0
unfolding tabulate
none_filled f row = record { within = zero-le; kept = refl; entries = refl }

module _ (f : ℕ → ℕ) (row₀ row : List ℕ) (t : ℕ) (h : FilledTo f row₀ row t) where
  pub one_filled : (v : ℕ) → t < length row → v ≡ f t → FilledTo f row₀ (set row t v) (t + 1)
  one_filled v l e = record {
    within = simp length-set (omega arith);
    kept = length-set row t v ∙ h.kept;
    entries = ap₂ (λ row v. set row t v) h.entries e ∙ next_stored f t row₀ (omega arith);
  }

  -- The part up to e is lent, and comes back filled.
  pub part_filled : (e : ℕ) (part : List ℕ) → t ≤ e → e ≤ length row
      → part ≡ tabulate (length (take (e - t) (drop t row))) (λ j. f (t + j)) → FilledTo f row₀ (put_mid t (e - t) row part) e
  part_filled e part l b said =
      let k : ℕ = e - t in
      let end : t + k ≡ e = omega arith in
      let few : length (take k (drop t row)) ≡ k = length-take-le k (drop t row) (omega (arith, length-drop t row)) in
      let front : take t row ≡ tabulate t f = ap (take t) h.entries ∙ take_at (tabulate t f) (drop t row₀) t (length_tabulate t f) in
      let rest : drop t row ≡ drop t row₀ = ap (drop t) h.entries ∙ drop_at (tabulate t f) (drop t row₀) t (length_tabulate t f) in
      let back : drop k (drop t row) ≡ drop e row₀ = ap (drop k) rest ∙ drop-drop k t row₀ ∙ ap (λ (n : ℕ). drop n row₀) end in
      let whole : put_mid t k row part ≡ tabulate e f ++ drop e row₀ =
      rw (said, few, front, back)
      (sym (append_assoc (tabulate t f) (tabulate k (λ j. f (t + j))) (drop e row₀))
      ∙ ap (λ (l : List ℕ). l ++ drop e row₀) (sym (in_parts t k f) ∙ ap (λ (n : ℕ). tabulate n f) end))
      in
      let long : length (put_mid t k row part) ≡ length row₀ =
      ap length whole ∙ length-append (tabulate e f) (drop e row₀)
      ∙ omega (arith, length_tabulate e f, length-drop e row₀, h.kept)
      in
      record { within = omega (arith, h.kept); kept = long; entries = whole }

  pub all_filled : length row ≤ t → row ≡ tabulate (length row₀) f
  all_filled l =
      let end : t ≡ length row₀ = omega arith in
      h.entries ∙ ap₂ ◌++◌ (ap (λ (n : ℕ). tabulate n f) end) (drop_of_length-le row₀ {i = t} (omega arith)) ∙ append-nil (tabulate (length row₀) f)

-- ---- the table of pairs

module _ (before : List ℕ) (n : ℕ) (f : ℕ → ℕ → ℕ) where
  -- Before the first row every entry is as it was.
  pub no_rows : before ≡ rows_of before 0 n f
  unfolding rows_of row_entry
  no_rows = tabulated (length before) (row_entry before 0 n f) 0 before refl (λ k _. rw (le-ltb (k / 128) 0 zero-le))

  -- One row more keeps the entries outside of it.
  entry_kept : (s k : ℕ) → (k % 128 < n → k / 128 ≢ s) → row_entry before s n f k ≡ row_entry before (s + 1) n f k
  unfolding row_entry
  entry_kept s k other = go (ltb (k % 128) n) refl
    where
      go : (b : Bool) → ltb (k % 128) n ≡ b → row_entry before s n f k ≡ row_entry before (s + 1) n f k
      go true e = rw (below_next (k / 128) s (other (ltb-true (k % 128) n e)))
      go false e = simp (e, and-false)

  -- A row is stored in the part of the table that is lent for it.
  pub one_row : (s : ℕ) → 128 * s + n ≤ length before → n ≤ 128
      → put_mid (128 * s) n (rows_of before s n f) (tabulate n (f s)) ≡ rows_of before (s + 1) n f
  unfolding rows_of
  one_row s room few =
      ap (put_mid (128 * s) n (rows_of before s n f))
      (same_entries n (f s) (λ t. row_entry before (s + 1) n f (128 * s + t)) (λ t l. sym (entry_at before (s + 1) n f s t (omega arith) l few)))
      ∙ part_stored (128 * s) n (length before) (row_entry before s n f) (row_entry before (s + 1) n f) room
      (λ k l. entry_kept s k (λ _ e. omega arith))
      (λ k l. entry_kept s k (λ t e. omega arith))

-- The first s rows of a table are filled.
pub record RowsFilled (f : ℕ → ℕ → ℕ) (states : ℕ) (before masks : List ℕ) (s : ℕ) : Type 0 where
  pub few : states ≤ 128
  pub space : 128 * (states + 1) ≤ length before
  pub within : s ≤ states
  pub entries : masks ≡ rows_of before s states f

pub none_of_rows : (f : ℕ → ℕ → ℕ) (states : ℕ) (before : List ℕ) → states ≤ 128 → 128 * (states + 1) ≤ length before → RowsFilled f states before before 0
none_of_rows f states before few room = record { few = few; space = room; within = zero-le; entries = no_rows before states f }

module _ (f : ℕ → ℕ → ℕ) (states : ℕ) (before masks : List ℕ) (s : ℕ) (h : RowsFilled f states before masks s) where
  size : length masks ≡ length before
  size = ap length h.entries ∙ length_rows before s states f

  -- there is room for one row more
  row_room : 128 * s + states ≤ length masks
  row_room = omega (arith, size, h.few, h.space, h.within)

  -- the part from `128 * s` up to `128 * s + states` has come back as a row
  pub row_added : (row : List ℕ) → row ≡ tabulate (length (take (128 * s + states - 128 * s) (drop (128 * s) masks))) (f s)
      → put_mid (128 * s) (128 * s + states - 128 * s) masks row ≡ rows_of before (s + 1) states f
  row_added row said =
      let k : 128 * s + states - 128 * s ≡ states = omega arith in
      let n : length (take states (drop (128 * s) masks)) ≡ states = simp (length-take, length-drop) (omega (arith, row_room)) in
      rw (said, k, n, h.entries) (one_row before states f s (omega (arith, size, row_room)) h.few)

  pub one_row_more : (row : List ℕ) → s < states → row ≡ tabulate (length (take (128 * s + states - 128 * s) (drop (128 * s) masks))) (f s)
      → RowsFilled f states before (put_mid (128 * s) (128 * s + states - 128 * s) masks row) (s + 1)
  one_row_more row l said = record { few = h.few; space = h.space; within = omega arith; entries = row_added row said }

  -- all states have their rows
  pub all_rows : states ≤ s → RowsFilled f states before masks states
  all_rows l = subst (RowsFilled f states before masks) (omega (arith, h.within)) h
