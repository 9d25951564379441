-- How the rows of the reached states are walked: what each mark says, a loop that passes over the marks, and the verdict once a reached state
-- is bad or no row is left. From the laws of walks and the meaning of the verdict. Assumes nothing.
use Prim.Native.Nat.{ℕ, ◌+◌, ◌-◌, ◌*◌, ◌≤◌, ◌<◌}
use mathlib.Core.Path.{◌≡◌, refl, sym, ap, subst, ◌∙◌}
use mathlib.Core.Logic.{◌≢◌, ⊎_elim}
use mathlib.Core.Bool.{Bool, true, false, not, ◌&&◌, ◌||◌, or-false, and-eq-true_iff, true≢false}
use mathlib.Core.List.{List}
use Rattle.std.specs.Prelude.{Option, Some, None, MatchOption}
use Rattle.std.specs.List.{AllWithin, HoldsAt}
use mathlib.Mathlib.Data.Bool.Basic.{or_inl, or_inr, eq-false_of_not-eq-true}
use native.Mathlib.Decide.{ℕ_discrete}
use native.Mathlib.Omega.{arith}
use borrow.Author.Tests.{eqb-true, eq-eqb, ne_eqb, not-true, not-false}
use mir.Val.{bool_byte}
use lib.Bits.{bit_and, bit_or}
use lib.Dec.{eqb}
use lib.ListN.{length, get_or, set, take, drop, length-set, length-drop}
use lib.Seq.{get_or-set_same, get_or-set_other, get_or-drop, take_all}
use Rattle.sets.specs.Laws.Choice.{either}
use Rattle.systems.specs.Least.{least}
use Rattle.systems.specs.Laws.Least.{any_intro, any_elim}
use Rattle.systems.specs.Count.{count}
use Rattle.systems.specs.Laws.Count.{count_le, count_same, count_more}
use Rattle.systems.specs.System.{System, Reached}
use Rattle.systems.specs.Laws.Walks.{walk_last, reached_start, reached_step, reached_least}
use Rattle.systems.specs.Verdict.{holds}
use Rattle.systems.specs.Laws.Holds.{holds_iff}
use Rattle.systems.specs.declared.systems.Systems.{Systems}
use Rattle.systems.specs.ByTables.{mark_at, step_by, system_by, judge_by}
use Rattle.systems.specs.BySystems.{row_among, step_among, start_among, system_among, judge_among}
use Rattle.systems.specs.Laws.Rows.{length_row, row_at}
use Rattle.verdicts.specs.Marks.{mark_of, has_bits, any_with, is_open, IsOpen, IsNextOpen, NoneOpen, FirstMarks, RowMarked, RowWalked}

-- ---- one mark

-- It is reached and bad; and its row has been walked.
abbrev is_hit : ℕ → Bool
is_hit = has_bits 5

unfoldable is_walked : ℕ → Bool
unfolding has_bits
is_walked = has_bits 2

pub mark_first : (r b : Bool) → bit_or (1 * bool_byte r) (4 * bool_byte b) ≡ mark_of r false b
unfolding mark_of
mark_first true true = refl
mark_first true false = refl
mark_first false true = refl
mark_first false false = refl

mark_reached : (r w b e : Bool) → bit_or (mark_of r w b) (bool_byte e) ≡ mark_of (r || e) w b
unfolding mark_of
mark_reached true true true true = refl
mark_reached true true true false = refl
mark_reached true true false true = refl
mark_reached true true false false = refl
mark_reached true false true true = refl
mark_reached true false true false = refl
mark_reached true false false true = refl
mark_reached true false false false = refl
mark_reached false true true true = refl
mark_reached false true true false = refl
mark_reached false true false true = refl
mark_reached false true false false = refl
mark_reached false false true true = refl
mark_reached false false true false = refl
mark_reached false false false true = refl
mark_reached false false false false = refl

-- What the bits of a mark say, and what is one bit more.
record BitsSay (r w b : Bool) : Type 0 where
  walk : bit_or (mark_of r w b) 2 ≡ mark_of r true b
  hit : is_hit (mark_of r w b) ≡ (r && b)
  bad : has_bits 4 (mark_of r w b) ≡ b
  left : is_open (mark_of r w b) ≡ (r && not w)
  walked : is_walked (mark_of r w b) ≡ w

bits_say : (r w b : Bool) → BitsSay r w b
unfolding mark_of has_bits is_open is_walked
bits_say true true true = record { walk = refl; hit = refl; bad = refl; left = refl; walked = refl }
bits_say true true false = record { walk = refl; hit = refl; bad = refl; left = refl; walked = refl }
bits_say true false true = record { walk = refl; hit = refl; bad = refl; left = refl; walked = refl }
bits_say true false false = record { walk = refl; hit = refl; bad = refl; left = refl; walked = refl }
bits_say false true true = record { walk = refl; hit = refl; bad = refl; left = refl; walked = refl }
bits_say false true false = record { walk = refl; hit = refl; bad = refl; left = refl; walked = refl }
bits_say false false true = record { walk = refl; hit = refl; bad = refl; left = refl; walked = refl }
bits_say false false false = record { walk = refl; hit = refl; bad = refl; left = refl; walked = refl }

-- Of two that are not both true, the other one.
other : (a b : Bool) → (a && b) ≡ false → a ≡ true → b ≡ false
other a b e f = sym (ap (λ a. a && b) f) ∙ e

-- ---- loops over the marks

-- The entries below t are those of f, and the others are as they came.
pub record Passed (f : ℕ → ℕ) (before after : List ℕ) (t : ℕ) : Type 0 where
  pub size : length after ≡ length before
  pub done : (k : ℕ) → k < t → get_or after k 0 ≡ f k
  pub kept : (k : ℕ) → t ≤ k → get_or after k 0 ≡ get_or before k 0

module _ {f : ℕ → ℕ} {before after : List ℕ} {t : ℕ} (l : Passed f before after t) where
  pub passed_next : (v : ℕ) → t < length before → v ≡ f t → Passed f before (set after t v) (t + 1)
  passed_next v h e = record {
    size = length-set after t v ∙ l.size;
    done = λ k g. at k g (ℕ_discrete k t);
    kept = λ k g. get_or-set_other after t k v 0 (λ i. omega arith) ∙ l.kept k (omega arith);
  }
    where
      at : (k : ℕ) → k < t + 1 → Dec (k ≡ t) → get_or (set after t v) k 0 ≡ f k
      at k g (yes i) = rw i (get_or-set_same after t v 0 (omega (arith, l.size)) ∙ e)
      at k g (no i) = get_or-set_other after t k v 0 i ∙ l.done k (omega arith)

-- A row is a part of the masks.
pub row_walked : (systems : Systems) (rules s : ℕ) {before after : List ℕ} → s < systems.tables.now.states
    → RowMarked (row_among systems s) rules (set before s (bit_or (get_or before s 0) 2)) after → RowWalked systems rules s before after
unfolding step_by
row_walked systems rules s {before} {after} h r = record {
  size = r.size ∙ length-set before s (bit_or (get_or before s 0) 2);
  at = λ t g.
      r.at t (omega (arith, length_row systems.masks.now systems.tables.now s systems.has_room (omega arith)))
      ∙ ap (λ m. bit_or (get_or (set before s (bit_or (get_or before s 0) 2)) t 0) (bool_byte (eqb (bit_and m rules) rules)))
      (row_at systems.masks.now systems.tables.now s t g);
}

-- The marks from s on, of which the first so many are not open.
module _ (marks : List ℕ) (s : ℕ) where
  closed_from : (n : ℕ) → AllWithin (λ (m : ℕ). bit_and m 3 ≢ 1) (drop s marks) 0 n
      → (k : ℕ) → s ≤ k → k < s + n → is_open (get_or marks k 0) ≡ false
  unfolding is_open
  closed_from n all k h g =
      let at : s + (k - s) ≡ k = omega arith in
      ap (λ m. is_open m) (sym (rw at at (get_or-drop s marks (k - s) 0))) ∙ ne_eqb _ 1 (all (k - s) 0 (omega arith) (omega arith))

  abbrev pub rest : List ℕ
  rest = take (length marks - s) (drop s marks)

  whole : rest ≡ drop s marks
  whole = take_all (length marks - s) (drop s marks) (omega (arith, length-drop s marks))

  pub none_open : s ≤ length marks → AllWithin (λ (m : ℕ). bit_and m 3 ≢ 1) rest 0 (length rest) → NoneOpen marks s
  none_open l all = record { passed = λ k h g. closed_from (length (drop s marks)) (rw whole at all) k h (omega (arith, length-drop s marks)) }

  pub first_open : {n : ℕ} → (n < length rest) × HoldsAt (λ (m : ℕ). bit_and m 3 ≡ 1) rest n × AllWithin (λ (m : ℕ). bit_and m 3 ≢ 1) rest 0 n
      → IsNextOpen marks s (s + n)
  unfolding is_open
  first_open {n} f = let g = rw whole at f in record {
    after = omega arith;
    here = record {
      within = omega (arith, length-drop s marks, g.0);
      passes = ap (λ m. is_open m) (sym (get_or-drop s marks n 0)) ∙ eq-eqb _ 1 (g.1 0);
    };
    passed = closed_from n g.2;
  }

-- ---- the states of a system

-- The marks so far: a marked state ends a run, the start states are marked, a state whose row has been walked is not bad, and every state that
-- the row leads to is marked.
pub record Spread (M : System) (marks : List ℕ) : Type 0 where
  pub reached : ℕ → Bool
  pub walked : ℕ → Bool
  pub size : length marks ≡ M.size
  pub at : (s : ℕ) → s < M.size → get_or marks s 0 ≡ mark_of (reached s) (walked s) (M.bad s)
  pub runs : (s : ℕ) → s < M.size → reached s ≡ true → Reached M s
  pub begun : (s : ℕ) → s < M.size → M.start s ≡ true → reached s ≡ true
  pub good : (s : ℕ) → s < M.size → walked s ≡ true → M.bad s ≡ false
  pub closed : (s t : ℕ) → s < M.size → t < M.size → walked s ≡ true → M.step s t ≡ true → reached t ≡ true

pub spread_first : (systems : Systems) (set : ℕ) {marks : List ℕ} → FirstMarks systems set marks
    → Spread (system_among systems set) marks
unfolding system_by
spread_first systems set f = record {
  reached = start_among systems set;
  walked = λ _. false;
  size = f.size;
  at = f.at;
  runs = λ s h e. reached_start h e;
  begun = λ s h e. e;
  good = λ s h e. absurd (true≢false (sym e));
  closed = λ s t h g e f. absurd (true≢false (sym e));
}

module _ {M : System} {marks : List ℕ} (x : Spread M marks) where
  reached_here : (s : ℕ) → s < M.size → is_open (get_or marks s 0) ≡ true → (x.reached s ≡ true) × (x.walked s ≡ false)
  reached_here s h e =
      let (r, w) = (and-eq-true_iff (x.reached s) (not (x.walked s))).0 (sym (bits_say _ _ (M.bad s)).left ∙ ap is_open (sym (x.at s h)) ∙ e) in
      (r, not-true (x.walked s) w)

  -- A reached state is bad;
  spread_hit : any_with 5 marks ≡ true → holds M ≡ false
  unfolding any_with
  spread_hit e =
      let p : ℕ → Bool = λ t. is_hit (get_or marks t 0) in
      let s : ℕ = least (length marks) p in
      let (l, f) = any_elim (length marks) p e in
      let h : s < M.size = omega (arith, x.size) in
      let (r, b) = (and-eq-true_iff (x.reached s) (M.bad s)).0 (sym (bits_say _ (x.walked s) _).hit ∙ ap is_hit (sym (x.at s h)) ∙ f) in
      eq-false_of_not-eq-true (λ t. true≢false (sym b ∙ ((holds_iff M).0 t).good s (x.runs s h r)))

  -- if none is, the next one is not;
  spread_unhit : any_with 5 marks ≡ false → (s : ℕ) → s < M.size → x.reached s ≡ true → M.bad s ≡ false
  unfolding any_with
  spread_unhit none s h e =
      other (x.reached s) (M.bad s)
      (sym (bits_say _ (x.walked s) _).hit ∙ ap is_hit (sym (x.at s h))
      ∙ eq-false_of_not-eq-true (λ f. true≢false (sym (any_intro (length marks) (λ t. is_hit (get_or marks t 0)) s (omega (arith, x.size)) f) ∙ none)))
      e

  -- and every row has been walked.
  spread_all : ((k : ℕ) → k < M.size → is_open (get_or marks k 0) ≡ false) → holds M ≡ true
  spread_all closed = (holds_iff M).1 (record { good = good })
    where
      all_walked : (s : ℕ) → s < M.size → x.reached s ≡ true → x.walked s ≡ true
      all_walked s h e =
          not-false (x.walked s)
          (other (x.reached s) (not (x.walked s)) (sym (bits_say _ _ (M.bad s)).left ∙ ap is_open (sym (x.at s h)) ∙ closed s h) e)

      good : (s : ℕ) → Reached M s → M.bad s ≡ false
      good s r =
          let m : x.reached s ≡ true =
          reached_least M (λ s. x.reached s ≡ true) x.begun
          (λ s t h g e f. x.closed s t h g (all_walked s h e) f) s r
          in
          let h : s < M.size = subst (λ s. s < M.size) r.ends (walk_last r.path r.run) in
          x.good s h (all_walked s h m)

  -- The rows that have been walked.
  walked_rows : count M.size (λ s. is_walked (get_or marks s 0)) ≡ count M.size x.walked
  walked_rows =
      count_same (λ s. is_walked (get_or marks s 0)) x.walked M.size
      (λ s h. ap is_walked (x.at s h) ∙ (bits_say (x.reached s) _ (M.bad s)).walked)

-- How many rows have not been walked.
unfoldable pub rows_left : ℕ → List ℕ → ℕ
unfolding is_walked
rows_left states marks = states - count states (λ t. is_walked (get_or marks t 0))

-- The row of one more state is walked, which is reached.
module _ (systems : Systems) (rules s : ℕ) {before after : List ℕ}
    (x : Spread (system_among systems rules) before)
    (h : s < systems.tables.now.states)
    (left : is_open (get_or before s 0) ≡ true)
    (unhit : any_with 5 before ≡ false)
    (w : RowWalked systems rules s before after)
  where
    spread_next : Spread (system_among systems rules) after
    unfolding system_by
    spread_next = record {
      reached = λ t. x.reached t || step_among systems rules s t;
      walked = λ t. x.walked t || eqb t s;
      size = w.size ∙ x.size;
      at = λ t g. w.at t g ∙ ap (λ m. bit_or m (bool_byte (step_among systems rules s t))) (old t g (ℕ_discrete t s))
          ∙ mark_reached (x.reached t) (x.walked t || eqb t s) (mark_at systems.tables.now.bad t) (step_among systems rules s t);
      runs = λ t g e.
          ⊎_elim (λ r. x.runs t g r) (λ r. reached_step (x.runs s h (reached_here x s h left).0) g r)
          (either (x.reached t) (step_among systems rules s t) e);
      begun = λ t g e. or_inl (x.reached t) (step_among systems rules s t) (x.begun t g e);
      good = λ u g e.
          ⊎_elim (x.good u g) (λ o. spread_unhit x unhit u g (subst (λ u. x.reached u ≡ true) (sym (eqb-true u s o)) (reached_here x s h left).0))
          (either (x.walked u) (eqb u s) e);
      closed = λ u t g l e f.
          ⊎_elim
          (λ o. or_inl (x.reached t) (step_among systems rules s t) (x.closed u t g l o f))
          (λ o. or_inr (x.reached t) (step_among systems rules s t) (subst (λ u. step_among systems rules u t ≡ true) (eqb-true u s o) f))
          (either (x.walked u) (eqb u s) e);
    }
      where
        old : (t : ℕ) → t < systems.tables.now.states → Dec (t ≡ s)
            → get_or (set before s (bit_or (get_or before s 0) 2)) t 0 ≡ mark_of (x.reached t) (x.walked t || eqb t s) (mark_at systems.tables.now.bad t)
        old t g (yes i) =
            rw i
            (get_or-set_same before s (bit_or (get_or before s 0) 2) 0 (omega (arith, x.size))
            ∙ ap (λ m. bit_or m 2) (x.at s h)
            ∙ (bits_say (x.reached s) (x.walked s) (mark_at systems.tables.now.bad s)).walk
            ∙ ap (λ w. mark_of (x.reached s) w (mark_at systems.tables.now.bad s)) (sym (or_inr (x.walked s) (eqb s s) (eq-eqb s s refl))))
        old t g (no i) =
            get_or-set_other before s t (bit_or (get_or before s 0) 2) 0 i
            ∙ x.at t g
            ∙ ap (λ w. mark_of (x.reached t) w (mark_at systems.tables.now.bad t)) (rw (ne_eqb t s i) (sym (or-false (x.walked t))))

    -- One row less is left.
    spread_less : rows_left systems.tables.now.states after < rows_left systems.tables.now.states before
    unfolding system_by spread_next rows_left
    spread_less =
        omega (
          arith,
          walked_rows x,
          walked_rows spread_next,
          count_le systems.tables.now.states spread_next.walked,
          count_more x.walked spread_next.walked (λ k e. or_inl (x.walked k) (eqb k s) e) systems.tables.now.states s h (reached_here x s h left).1
              (or_inr (x.walked s) (eqb s s) (eq-eqb s s refl)),
        )

-- ---- the judgement

-- No state is bad.
pub none_bad : (systems : Systems) (rules : ℕ) {marks : List ℕ} → FirstMarks systems rules marks
    → any_with 4 marks ≡ false → judge_among systems rules ≡ true
unfolding any_with judge_by system_by
none_bad systems rules {marks} f none = (holds_iff M).1 (record { good = λ s r. good s (subst (λ t. t < M.size) r.ends (walk_last r.path r.run)) })
  where
    M : System
    M = system_among systems rules

    good : (s : ℕ) → s < M.size → M.bad s ≡ false
    good s h =
        sym (bits_say (start_among systems rules s) false (mark_at systems.tables.now.bad s)).bad
        ∙ ap (has_bits 4) (sym (f.at s h))
        ∙ eq-false_of_not-eq-true (λ e. true≢false (sym (any_intro (length marks) (λ t. has_bits 4 (get_or marks t 0)) s (omega (arith, f.size)) e) ∙ none))

-- The marks are spread, and the next state is one to walk from, if there is one.
pub record Judging (systems : Systems) (rules : ℕ) (marks : List ℕ) (found : Option ℕ) : Type 0 where
  pub spread : Spread (system_among systems rules) marks
  pub next : MatchOption found (NoneOpen marks 0) (IsOpen marks)

module _ {systems : Systems} {rules : ℕ} {before : List ℕ} where
  -- A reached state is bad.
  pub judging_hit : {found : Option ℕ} → Judging systems rules before found → any_with 5 before ≡ true → judge_among systems rules ≡ false
  unfolding judge_by system_by
  judging_hit j e = spread_hit j.spread e

  -- No row is left.
  pub judging_ends : Judging systems rules before None → judge_among systems rules ≡ true
  unfolding judge_by system_by
  judging_ends j = spread_all j.spread (λ k h. j.next.passed k (omega arith) (omega (arith, j.spread.size)))

  -- The row of state s is walked.
  module _ {s : ℕ} (j : Judging systems rules before (Some s)) (unhit : any_with 5 before ≡ false)
      {after : List ℕ} (w : RowWalked systems rules s before after) where
    pub judging_state : s < systems.tables.now.states
    unfolding system_by
    judging_state = omega (arith, j.next.within, j.spread.size)

    pub judging_next : {found : Option ℕ} → MatchOption found (NoneOpen after 0) (IsOpen after) → Judging systems rules after found
    judging_next n = record { spread = spread_next systems rules s j.spread judging_state j.next.passes unhit w; next = n }

    pub judging_less : rows_left systems.tables.now.states after < rows_left systems.tables.now.states before
    judging_less = spread_less systems rules s j.spread judging_state j.next.passes unhit w
