-- What a search holds, step by step: what a mark more changes, and that the start states and a row of pairs, tried one by one, store the runs and the
-- pairs of `starts_below` and `try_row`. And the trace among the runs of the whole search. From the laws of the runs that a list holds, of lists, of
-- counts and of the search. Assumes nothing.
use Prim.Native.Nat.{ℕ, zero, suc, ◌+◌, ◌*◌, ◌≤◌, ◌<◌}
use Rattle.std.specs.Prelude.{Option, None, Some}
use Rattle.std.specs.List.{position, position_or_len}
use mathlib.Core.Path.{◌≡◌, refl, sym, ap, ap₂, subst, ◌∙◌}
use mathlib.Core.Logic.{◌≢◌, ⊎_elim}
use mathlib.Core.Bool.{Bool, true, false, not, cond, ◌&&◌, ◌||◌, or-false, and-eq-true_iff}
use mathlib.Core.List.{List, [], ◌∷◌, ◌++◌}
use mathlib.Mathlib.Data.Bool.Basic.{dichotomy, or_inr}
use native.Mathlib.Nat.{mul-le-mul}
use native.Mathlib.Omega.{arith}
use borrow.Author.Tests.{eqb-true, eqb-false, ltb-false, not-true}
use lib.Dec.{eqb, ltb}
use lib.ListN.{length, get_or, set, replicate, length-set, length-replicate}
use lib.Seq.{get_or-set_same, get_or-set_other}
use Rattle.std.proofs.lemmas.List.{get_or_past, length-take-le, take_more_set}
use Rattle.std.proofs.lemmas.List.Sums.{prefix_len_is}
use Rattle.std.proofs.lemmas.Option.{cond_some, none-some}
use Rattle.sets.specs.Tabulated.{tabulate}
use Rattle.sets.specs.Laws.Tabulated.{tabulated}
use Rattle.searches.specs.declared.runs.Reached.{Reached}
use Rattle.searches.specs.declared.runs.Runs.{Runs}
use Rattle.traces.specs.declared.runs.Run.{Run}
use Rattle.systems.specs.Laws.Count.{count_le, count_less, count_none, count_one_more}
use Rattle.systems.specs.Least.{least}
use Rattle.systems.specs.Laws.Least.{IsLeast, least_is_least, least_same}
use Rattle.systems.specs.System.{System, last}
use Rattle.systems.specs.Verdict.{trace_of}
use Rattle.systems.specs.Laws.Walks.{last_snoc, walk_last}
use Rattle.traces.specs.Marked.{is_marked}
use Rattle.searches.specs.Search.{Collection, try_state, starts_below, pair_tried, try_row, explored, search}
use Rattle.searches.proofs.Laws.SearchSteps.{is_marked_nil, is_marked_snoc, starts_below_zero, starts_below_next, next_unmarked, try_pair_tried, try_row_zero, try_row_next, try_row_stays, explored_next, explored_full}
use Rattle.searches.proofs.Laws.Search.{explored_collected, explored_short, search_ended, search_trace}
use Rattle.searches.proofs.Laws.Collecting.{explored_pairs}
use Rattle.traces.specs.Stored.{no_run, before, runs_in}
use Rattle.searches.specs.Stored.{found_in, last_at, collection_in, no_runs, with_run, Sound, Stores, reached_of}
use Rattle.traces.specs.Laws.Runs.{same_before, runs_snoc, length_runs_in, chained_last, chained_none, chained_snoc}

-- ---- a mark more

module _ {x : Runs} (s : Sound x) where
  pub sound_few : x.count ≤ 128
  sound_few = omega (arith, s.counted, count_le 128 (λ u. get_or x.marks u false))

  -- As many are found as the count says.
  sound_found : length (found_in x) ≡ x.count
  sound_found = length-take-le x.count x.runs (omega (arith, s.room, sound_few))

  pub sound_length : length (runs_in (found_in x)) ≡ x.count
  sound_length = length_runs_in (found_in x) ∙ sound_found

  -- The state that a run ends in stands there.
  pub sound_last : (k : ℕ) → k < x.count → last (get_or (runs_in (found_in x)) k []) ≡ last_at x k
  sound_last k h = chained_last s.chained k (omega (arith, h, sound_found))

  pub sound_room : (t : ℕ) → t < 128 → get_or x.marks t false ≡ false → x.count < 128
  sound_room t h e = omega (arith, s.counted, count_less (λ u. get_or x.marks u false) 128 t h e)

  new : Option ℕ → ℕ → Run
  new parent t = record { last = t; parent = parent }

  -- The run that is stored behind those that are found is one more.
  more_found : (parent : Option ℕ) (t : ℕ) → x.count < 128 → found_in (with_run x parent t) ≡ found_in x ++ (new parent t ∷ [])
  unfolding with_run new
  more_found parent t h = take_more_set x.runs x.count (record { last = t; parent = parent }) (omega (arith, s.room))

  more_runs : (parent : Option ℕ) (t : ℕ) → x.count < 128
      → runs_in (found_in (with_run x parent t)) ≡ runs_in (found_in x) ++ ((before (runs_in (found_in x)) parent ++ (t ∷ [])) ∷ [])
  unfolding new
  more_runs parent t h = rw (more_found parent t h) (runs_snoc (found_in x) (new parent t))

  more_marked : (t u : ℕ) → t < 128 → get_or (set x.marks t true) u false ≡ (get_or x.marks u false || eqb t u)
  more_marked t u h = ⊎_elim other same (dichotomy (eqb t u))
    where
      same : eqb t u ≡ true → get_or (set x.marks t true) u false ≡ (get_or x.marks u false || eqb t u)
      same e =
          ap (λ v. get_or (set x.marks t true) v false) (sym (eqb-true t u e))
          ∙ get_or-set_same x.marks t true false (omega (arith, s.marks))
          ∙ sym (or_inr (get_or x.marks u false) (eqb t u) e)

      other : eqb t u ≡ false → get_or (set x.marks t true) u false ≡ (get_or x.marks u false || eqb t u)
      other e =
          get_or-set_other x.marks t u true false (λ g. eqb-false t u e (sym g))
          ∙ sym (ap (λ b. get_or x.marks u false || b) e ∙ or-false (get_or x.marks u false))

  sound_more : (parent : Option ℕ) (t : ℕ) → t < 128 → get_or x.marks t false ≡ false → ((p : ℕ) → parent ≡ Some p → p < x.count)
      → Stores (record { runs = runs_in (found_in x) ++ ((before (runs_in (found_in x)) parent ++ (t ∷ [])) ∷ []); pairs = x.pairs }) (with_run x parent t)
  unfolding with_run new
  sound_more parent t h unmarked within = record {
    runs = more_runs parent t room;
    pairs = refl;
    sound = record {
      marks = length-set x.marks t true ∙ s.marks;
      room = length-set x.runs x.count (record { last = t; parent = parent }) ∙ s.room;
      chained = rw (more_found parent t room)
          (chained_snoc s.chained (new parent t) (omega (arith, room, sound_found)) h (λ p g. omega (arith, within p g, sound_found)));
      marked = λ u.
          more_marked t u h
          ∙ ap₂ ◌||◌ (s.marked u) (ap (λ v. eqb v u) (sym (last_snoc (before (runs_in (found_in x)) parent) t)))
          ∙ sym (is_marked_snoc (runs_in (found_in x)) (before (runs_in (found_in x)) parent ++ (t ∷ [])) u)
          ∙ ap (λ q. is_marked q u) (sym (more_runs parent t room));
      counted = omega (
        arith,
        s.counted,
        count_one_more (λ u. get_or x.marks u false) (λ u. get_or (set x.marks t true) u false) t unmarked
            (get_or-set_same x.marks t true false (omega (arith, s.marks)))
            (λ u g. sym (get_or-set_other x.marks t u true false g)) 128 h,
      );
    };
  }
    where
      room : x.count < 128
      room = sound_room t h unmarked

-- The count is how many runs there are.
stores_count : {c : Collection} {x : Runs} → Stores c x → length c.runs ≡ x.count
stores_count a = ap length (sym a.runs) ∙ sound_length a.sound

-- ---- before the first mark

-- What is repeated stands at every place, and past the end as well.
pub get_d_repeat : {A : Type 0} (n k : ℕ) (a : A) → get_or (replicate n a) k a ≡ a
get_d_repeat zero k a = refl
get_d_repeat (suc n) zero a = refl
get_d_repeat (suc n) (suc k) a = get_d_repeat n k a

sound_none : Sound no_runs
unfolding no_runs runs_in
sound_none = record {
  marks = length-replicate 128 false;
  room = length-replicate 128 no_run;
  chained = chained_none;
  marked = λ u. get_d_repeat 128 u false ∙ sym (is_marked_nil u);
  counted = sym (count_none (λ u. get_or (replicate 128 false) u false) (λ u. get_d_repeat 128 u false) 128);
}

-- ---- a row of states

-- y holds the collection c, and what stood before the runs of `parent` among q still stands there.
pub record RowStored (parent : Option ℕ) (q : List (List ℕ)) (c : Collection) (y : Runs) : Type 0 where
  pub stores : Stores c y
  pub behind : before (runs_in (found_in y)) parent ≡ before q parent
  pub within : (p : ℕ) → parent ≡ Some p → p < y.count

row_none : {parent : Option ℕ} {x : Runs} → Sound x → ((p : ℕ) → parent ≡ Some p → p < x.count) → RowStored parent (runs_in (found_in x)) (collection_in x) x
unfolding collection_in
row_none s within = record { stores = record { runs = refl; pairs = refl; sound = s }; behind = refl; within = within }

module _ {parent : Option ℕ} {q : List (List ℕ)} {c : Collection} {y : Runs} (w : RowStored parent q c y) (next : ℕ → Bool) (t : ℕ) where
  -- State t is tried behind the run at place `parent`, or behind none.
  tried : Collection
  tried = record { runs = try_state next (before q parent) t c.runs; pairs = c.pairs }

  tested : (b : Bool) → (next t && not (get_or y.marks t false)) ≡ b
      → try_state next (before q parent) t c.runs ≡ cond b (runs_in (found_in y) ++ ((before (runs_in (found_in y)) parent ++ (t ∷ [])) ∷ [])) (runs_in (found_in y))
  unfolding try_state
  tested b e =
      ap₂ (λ p r. cond (next t && not (is_marked p t)) (p ++ ((r ++ (t ∷ [])) ∷ [])) p) (sym w.stores.runs) (sym w.behind)
      ∙ ap (λ b. cond b (runs_in (found_in y) ++ ((before (runs_in (found_in y)) parent ++ (t ∷ [])) ∷ [])) (runs_in (found_in y)))
      (ap (λ m. next t && not m) (sym (w.stores.sound.marked t)) ∙ e)

  row_passed : (next t && not (get_or y.marks t false)) ≡ false → RowStored parent q tried y
  unfolding tried
  row_passed e = record {
    stores = record { runs = sym (tested false e); pairs = w.stores.pairs; sound = w.stores.sound };
    behind = w.behind;
    within = w.within;
  }

  unmarked : (next t && not (get_or y.marks t false)) ≡ true → get_or y.marks t false ≡ false
  unmarked e = not-true (get_or y.marks t false) ((and-eq-true_iff (next t) (not (get_or y.marks t false))).0 e).1

  row_taken : t < 128 → (next t && not (get_or y.marks t false)) ≡ true → RowStored parent q tried (with_run y parent t)
  unfolding tried with_run
  row_taken h e = record {
    stores = record { runs = m.runs ∙ sym (tested true e); pairs = w.stores.pairs; sound = m.sound };
    behind = ap (λ p. before p parent) m.runs
        ∙ same_before (runs_in (found_in y)) (before (runs_in (found_in y)) parent ++ (t ∷ [])) parent (λ p g. omega (arith, sound_length s, w.within p g))
        ∙ w.behind;
    within = λ p g. omega (arith, w.within p g);
  }
    where
      s : Sound y
      s = w.stores.sound

      m : Stores (record { runs = runs_in (found_in y) ++ ((before (runs_in (found_in y)) parent ++ (t ∷ [])) ∷ []); pairs = y.pairs }) (with_run y parent t)
      m = sound_more s parent t h (unmarked e) w.within

-- ---- the start states

-- The start states below s have been marked.
pub record StartsStored (start : ℕ → Bool) (s : ℕ) (y : Runs) : Type 0 where
  pub row : RowStored None [] (record { runs = starts_below start s; pairs = 0 }) y

pub starts_none : {start : ℕ → Bool} → StartsStored start 0 no_runs
unfolding no_runs runs_in before
starts_none {start} = record {
  row = record {
    stores = record { runs = sym (starts_below_zero start); pairs = refl; sound = sound_none };
    behind = refl;
    within = λ p h. cc;
  };
}

module _ {start : ℕ → Bool} {s : ℕ} {y : Runs} (w : StartsStored start s y) where
  -- The next one has no mark yet,
  pub starts_unmarked : get_or y.marks s false ≡ false
  starts_unmarked =
      w.row.stores.sound.marked s ∙ ap (λ q. is_marked q s) w.row.stores.runs ∙ next_unmarked start s s (omega arith)

  -- so no test of a mark is needed.
  pub starts_passed : start s ≡ false → StartsStored start (s + 1) y
  unfolding tried before
  starts_passed e = record {
    row = rw (starts_below_next start s) (row_passed w.row start s (ap (λ b. b && not (get_or y.marks s false)) e));
  }

  pub starts_taken : {u : ℕ} → u ≡ s → s < 128 → start s ≡ true → StartsStored start (s + 1) (with_run y None u)
  unfolding tried before
  starts_taken same h e = rw same (record {
    row = rw (starts_below_next start s) (row_taken w.row start s h (ap₂ (λ b m. b && not m) e starts_unmarked));
  })

-- ---- the pairs of a row

-- The last state of the run at place i of x has been tried as the first of a pair with the states below t.
pub record PairsStored (size : ℕ) (next : ℕ → Bool) (i : ℕ) (x : Runs) (t : ℕ) (y : Runs) : Type 0 where
  pub row : RowStored (Some i) (runs_in (found_in x)) (try_row size next (get_or (runs_in (found_in x)) i []) t (collection_in x)) y

pub pairs_none : {size : ℕ} {next : ℕ → Bool} {i : ℕ} {x : Runs} → Sound x → i < x.count → PairsStored size next i x 0 x
pairs_none {size} {next} {i} {x} s h = record { row = rw (try_row_zero size next (get_or (runs_in (found_in x)) i []) (collection_in x)) (row_none s (λ p e. let same : i ≡ p = cc in omega arith)) }

-- One pair more is counted.
unfoldable pub counted : Runs → Runs
counted y = record { marks = y.marks; runs = y.runs; count = y.count; pairs = y.pairs + 1 }

module _ {size : ℕ} {next : ℕ → Bool} {i : ℕ} {x : Runs} {t : ℕ} {y : Runs} (w : PairsStored size next i x t y) where
  c : Collection
  c = try_row size next (get_or (runs_in (found_in x)) i []) t (collection_in x)

  -- Where every state is marked, the row has ended.
  pub pairs_ended : y.count ≡ size → t ≤ size → Stores (try_row size next (get_or (runs_in (found_in x)) i []) size (collection_in x)) y
  unfolding c
  pairs_ended e h = rw (try_row_stays size next (get_or (runs_in (found_in x)) i []) t (collection_in x) (stores_count w.row.stores ∙ e) size h) w.row.stores

  -- Where not, the next pair is counted,
  pair_counted : RowStored (Some i) (runs_in (found_in x)) (record { runs = c.runs; pairs = c.pairs + 1 }) (counted y)
  unfolding c counted
  pair_counted = record {
    stores = record {
      runs = w.row.stores.runs;
      pairs = ap (λ n. n + 1) w.row.stores.pairs;
      sound = let s = w.row.stores.sound in record {
        marks = s.marks;
        room = s.room;
        chained = s.chained;
        marked = s.marked;
        counted = s.counted;
      };
    };
    behind = w.row.behind;
    within = w.row.within;
  }

  next_pair : y.count ≢ size
      → try_row size next (get_or (runs_in (found_in x)) i []) (t + 1) (collection_in x)
      ≡ pair_tried next (get_or (runs_in (found_in x)) i []) t c
  unfolding c
  next_pair h =
      try_row_next size next (get_or (runs_in (found_in x)) i []) t (collection_in x)
      ∙ try_pair_tried size next (get_or (runs_in (found_in x)) i []) t c (λ e. h (sym (stores_count w.row.stores) ∙ e))

  -- and the state is passed over,
  pub pair_passed : y.count ≢ size → (next t && not (get_or y.marks t false)) ≡ false → PairsStored size next i x (t + 1) (counted y)
  unfolding c counted tried pair_tried before
  pair_passed h e = record { row = rw (next_pair h) (row_passed pair_counted next t e) }

  -- or marked.
  pub pair_taken : t < 128 → y.count ≢ size → (next t && not (get_or y.marks t false)) ≡ true
      → PairsStored size next i x (t + 1) (with_run (counted y) (Some i) t)
  unfolding c counted tried pair_tried before
  pair_taken b h e = record { row = rw (next_pair h) (row_taken pair_counted next t b e) }

-- ---- the whole search

module _ (M : System) (i : ℕ) {x : Runs} (a : Stores (explored M i) x) where
  pub stores_short : x.count ≤ M.size
  stores_short = omega (arith, stores_count a, explored_short M i)

  -- Every run ends in a state of the system.
  pub stores_state : (k : ℕ) → k < x.count → last_at x k < M.size
  stores_state k h =
      subst (λ s. s < M.size) (ap (λ q. last (get_or q k [])) (sym a.runs) ∙ sound_last a.sound k h)
      (walk_last (get_or (explored M i).runs k []) ((explored_collected M i).runs k (omega (arith, stores_count a))))

  -- No more pairs have been tried than there are.
  pub stores_tried : M.size ≤ 128 → i ≤ 128 → x.pairs ≤ 128 * 128
  stores_tried h b = omega (arith, a.pairs, explored_pairs M i, mul-le-mul h b)

  -- Where the run at place i has been tried with every state, one run more has been explored.
  pub stores_next : {y : Runs} → i < x.count
      → Stores (try_row M.size (M.step (last_at x i)) (get_or (runs_in (found_in x)) i []) M.size (collection_in x)) y → Stores (explored M (i + 1)) y
  unfolding collection_in
  stores_next {y} h b = rw (explored_next M i (omega (arith, stores_count a)), ← last_is, ← a.runs, ← a.pairs) b
    where
      last_is : last_at x i ≡ last (get_or (explored M i).runs i [])
      last_is = sym (sound_last a.sound i h) ∙ ap (λ q. last (get_or q i [])) a.runs

  -- Where every run has been tried, the search has ended;
  pub stores_all : x.count ≤ i → Stores (search M) x
  stores_all h = rw (search_ended M i (omega (arith, stores_count a))) a

  -- and where every state is marked.
  pub stores_full : x.count ≡ M.size → i ≤ M.size → Stores (search M) x
  unfolding search
  stores_full e h = rw (explored_full M i (stores_count a ∙ e) M.size h) a

-- The marks, the count and the pairs of the whole search are its answer.
pub stored_reached : (M : System) (x : Runs) → Stores (search M) x → ◌≡◌ {A = Reached} (record { marks = x.marks; count = x.count; pairs = x.pairs }) (reached_of M)
unfolding reached_of
stored_reached M x a =
    ap₂ (λ m n. record { marks = m; count = n; pairs = x.pairs }) marks (sym (stores_count a))
    ∙ ap (λ n. record { marks = tabulate 128 (is_marked (search M).runs); count = length (search M).runs; pairs = n }) a.pairs
  where
    marks : x.marks ≡ tabulate 128 (is_marked (search M).runs)
    marks =
        tabulated 128 (is_marked (search M).runs) false x.marks a.sound.marks
        (λ s _. a.sound.marked s ∙ ap (λ q. is_marked q s) a.runs)

-- ---- the first run to a bad state

-- The least place at which a test passes is where the first entry stands that passes it, and the length if there is none.
position_least : {A : Type 0} (p : A → Bool) (l : List A) (d : A) → position_or_len p l ≡ least (length l) (λ k. p (get_or l k d))
position_least p l d =
    let f : IsLeast (length l) (λ k. p (get_or l k d)) (least (length l) (λ k. p (get_or l k d))) = least_is_least (length l) (λ k. p (get_or l k d)) in
    prefix_len_is (λ y. not (p y)) l (least (length l) (λ k. p (get_or l k d))) d f.within (λ k h. ap not (f.before k h)) (λ h. ap not (f.passes h))

module _ (M : System) {x : Runs} (a : Stores (search M) x) where
  first : ℕ
  first = position_or_len (λ run. M.bad run.last) (found_in x)

  at_first : get_or (runs_in (found_in x)) first [] ≡ trace_of M
  unfolding first
  at_first =
      ap (λ j. get_or (runs_in (found_in x)) j [])
      (position_least (λ run. M.bad run.last) (found_in x) no_run
      ∙ least_same (sym (length_runs_in (found_in x))) (λ k h. ap M.bad (sym (chained_last a.sound.chained k h))))
      ∙ ap (λ q. get_or q (least (length q) (λ k. M.bad (last (get_or q k [])))) []) a.runs
      ∙ search_trace M

  pub trace_found : (j : ℕ) → Some j ≡ position (λ run. M.bad run.last) (found_in x) → get_or (runs_in (found_in x)) j [] ≡ trace_of M
  unfolding first
  trace_found j e = ap (λ k. get_or (runs_in (found_in x)) k []) (sym (cond_some _ _ _ (sym e)).1) ∙ at_first

  pub trace_none : None ≡ position (λ run. M.bad run.last) (found_in x) → trace_of M ≡ []
  unfolding first
  trace_none e = sym at_first ∙ get_or_past (runs_in (found_in x)) first [] (omega (arith, length_runs_in (found_in x), past))
    where
      past : length (found_in x) ≤ first
      past = ⊎_elim (λ f. ltb-false first (length (found_in x)) f) (λ t. absurd (none-some first (rw t at e))) (dichotomy (ltb first (length (found_in x))))
