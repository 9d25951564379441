-- What the breadth-first search of `Search` finds: a run to every reached state, once, and of all runs to that state the soonest.
-- So its marks are the reached states, and the first run found that ends in a bad state is the trace.
-- From the steps of the search, the order of runs and the laws of walks. Assumes nothing.
use Prim.Native.Nat.{ℕ, zero, suc, ◌+◌, ◌≤◌, ◌<◌}
use Rattle.std.specs.Prelude.{◌≡◌, refl, ◌↔◌, ◌≢◌, Bool, false, ◌||◌, eqb, ltb, length}
use Rattle.std.proofs.Math.Path.{sym, ap}
use Rattle.std.proofs.Common.{◌∙◌, inl, inr, true≢false, eq-or-lt_of_le, arith, add-one, below_more, eq-eqb, ne_eqb, ltb-true, ltb-false, leb-true, leb-false, length-append}
use Rattle.std.proofs.Math.Logic.{⊎_elim, ⊎_map}
use Rattle.std.proofs.Math.Bool.{true, or-false}
use mathlib.Core.List.{List, [], ◌∷◌, ◌++◌}
use mathlib.Mathlib.Data.Bool.Basic.{dichotomy, or_inr, eq-false_of_not-eq-true, eq-true_of_not-eq-false}
use Rattle.std.proofs.Math.Dec.{leb}
use Rattle.std.proofs.Math.ListN.{get_or, get_or-append, get_or-eq_default}
use Rattle.std.proofs.Math.Seq.{get_or-append_seam}
use Rattle.systems.specs.Least.{least}
use Rattle.systems.specs.Laws.Least.{IsLeast, least_is_least}
use Rattle.systems.specs.Count.{count}
use Rattle.systems.specs.Laws.Count.{count_le, count_less, count_none, count_one_more}
use Rattle.systems.specs.System.{System, last, Run, Breach, Reached, Trace}
use Rattle.systems.specs.Laws.Walks.{walk_one, walk_snoc, walk_last, last_snoc}
use Rattle.systems.specs.Verdict.{holds, trace_of}
use Rattle.systems.specs.Judged.{judged}
use Rattle.systems.specs.Laws.Holds.{holds_iff}
use Rattle.traces.specs.Marked.{is_marked}
use Rattle.searches.specs.Search.{Collection, try_state, starts_below, pair_tried, try_pair, try_row, explored, search}
use Rattle.searches.specs.Laws.Sooner.{Sooner, sooner_trans, sooner_snoc, sooner_last, walk_grows, NoLater, no_later_trans, no_later_snoc, no_later_length, no_later_first}
use Rattle.searches.proofs.Laws.SearchSteps.{RunTo, is_marked_nil, is_marked_snoc, is_marked_at, is_marked_run, try_state_taken, try_state_fails, try_state_marked, by_pair, explored_zero, by_run, explored_stays}

-- ---- a list with one run more

-- What is true of each run of a list and its place, and of one run more, is true of each of the longer list;
each_snoc : (P : ℕ → List ℕ → Type 0) (q : List (List ℕ)) (x : List ℕ) → ((k : ℕ) → k < length q → P k (get_or q k []))
    → P (length q) x → (k : ℕ) → k < length (q ++ (x ∷ [])) → P k (get_or (q ++ (x ∷ [])) k [])
each_snoc P q x old new k h =
    below_more (λ k. P k (get_or (q ++ (x ∷ [])) k [])) (length q)
    (λ k g. rw (get_or-append q (x ∷ []) [] k g) (old k g))
    (rw (get_or-append_seam q x [] []) new) k (rw length-append at h)

-- and so for two runs, one before the other.
pair_snoc : (R : List ℕ → List ℕ → Type 0) (q : List (List ℕ)) (x : List ℕ)
    → ((j k : ℕ) → j < k → k < length q → R (get_or q j []) (get_or q k [])) → ((j : ℕ) → j < length q → R (get_or q j []) x)
    → (j k : ℕ) → j < k → k < length (q ++ (x ∷ [])) → R (get_or (q ++ (x ∷ [])) j []) (get_or (q ++ (x ∷ [])) k [])
pair_snoc R q x old new j k g h =
    each_snoc (λ k r. j < k → R (get_or (q ++ (x ∷ [])) j []) r) q x
    (λ k h g. rw (get_or-append q (x ∷ []) [] j (omega arith)) (old j k g h))
    (λ g. rw (get_or-append q (x ∷ []) [] j g) (new j g)) k h g

-- p has the runs of q at their places, and perhaps more behind them.
record Extends (q p : List (List ℕ)) : Type 0 where
  pub longer : length q ≤ length p
  pub kept : (k : ℕ) → k < length q → get_or p k [] ≡ get_or q k []

extends_refl : (q : List (List ℕ)) → Extends q q
extends_refl q = record { longer = omega arith; kept = λ k h. refl }

extends_snoc : {q p : List (List ℕ)} (x : List ℕ) → Extends q p → Extends q (p ++ (x ∷ []))
extends_snoc {q} {p} x e = record {
  longer = simp length-append (omega (arith, e.longer));
  kept = λ k h. get_or-append p (x ∷ []) [] k (omega (arith, e.longer)) ∙ e.kept k h;
}

-- A run of q ends where r ends, and is r or sooner.
record Ahead (q : List (List ℕ)) (r : List ℕ) : Type 0 where
  pub place : ℕ
  pub within : place < length q
  pub ends : last (get_or q place []) ≡ last r
  pub sooner : NoLater (get_or q place []) r

ahead_kept : {q p : List (List ℕ)} {r : List ℕ} → Extends q p → Ahead q r → Ahead p r
ahead_kept {q} {p} {r} e a =
    let same : get_or p a.place [] ≡ get_or q a.place [] = e.kept a.place a.within in
    record {
      place = a.place;
      within = omega (arith, a.within, e.longer);
      ends = ap last same ∙ a.ends;
      sooner = rw same a.sooner;
    }

ahead_new : (q : List (List ℕ)) (x : List ℕ) → Ahead (q ++ (x ∷ [])) x
ahead_new q x = record {
  place = length q;
  within = simp length-append (omega arith);
  ends = ap last (get_or-append_seam q x [] []);
  sooner = inl (get_or-append_seam q x [] []);
}

-- ---- what is true of the runs found at any time

-- The runs of q are runs of M, each sooner than the next, no two of them end in one state, and there are as many as there are marks.
pub record Collected (M : System) (q : List (List ℕ)) : Type 0 where
  pub runs : (k : ℕ) → k < length q → Run M (get_or q k [])
  pub ordered : (j k : ℕ) → j < k → k < length q → Sooner (get_or q j []) (get_or q k [])
  pub distinct : (j k : ℕ) → j < k → k < length q → last (get_or q j []) ≢ last (get_or q k [])
  pub counted : length q ≡ count M.size (is_marked q)

collected_nil : (M : System) → Collected M []
collected_nil M = record {
  runs = λ k h. absurd (omega arith);
  ordered = λ j k g h. absurd (omega arith);
  distinct = λ j k g h. absurd (omega arith);
  counted = sym (count_none (is_marked []) is_marked_nil M.size);
}

-- It stays true with a run more, to a state that is not marked and later than all of them.
collected_snoc : {M : System} {q : List (List ℕ)} {x : List ℕ} → Collected M q → Run M x → is_marked q (last x) ≡ false
    → ((k : ℕ) → k < length q → Sooner (get_or q k []) x) → Collected M (q ++ (x ∷ []))
collected_snoc {M} {q} {x} f run unmarked later = record {
  runs = each_snoc (λ _ r. Run M r) q x f.runs run;
  ordered = pair_snoc Sooner q x f.ordered later;
  distinct = pair_snoc (λ r m. last r ≢ last m) q x f.distinct
      (λ j h e. true≢false (sym (is_marked_at q j h) ∙ ap (is_marked q) e ∙ unmarked));
  counted = omega (
    arith,
    length-append q (x ∷ []),
    f.counted,
    count_one_more (is_marked q) (is_marked (q ++ (x ∷ []))) (last x) unmarked marked others M.size (walk_last x run),
  );
}
  where
    marked : is_marked (q ++ (x ∷ [])) (last x) ≡ true
    marked = is_marked_snoc q x (last x) ∙ or_inr (is_marked q (last x)) (eqb (last x) (last x)) (eq-eqb (last x) (last x) refl)

    others : (s : ℕ) → s ≢ last x → is_marked q s ≡ is_marked (q ++ (x ∷ [])) s
    others s h =
        sym (or-false (is_marked q s)) ∙ ap (λ b. is_marked q s || b) (sym (ne_eqb (last x) s (λ e. h (sym e)))) ∙ sym (is_marked_snoc q x s)

module _ {M : System} {q : List (List ℕ)} (f : Collected M q) where
  -- So there are at most as many as there are states,
  collected_short : length q ≤ M.size
  collected_short = omega (arith, f.counted, count_le M.size (is_marked q))

  -- all are marked where there are as many,
  collected_full : length q ≡ M.size → (t : ℕ) → t < M.size → is_marked q t ≡ true
  collected_full full t h =
      eq-true_of_not-eq-false
      (λ e. omega (arith, f.counted, count_less (is_marked q) M.size t h e))

  -- and what is no state is not marked.
  pub collected_states : (s : ℕ) → M.size ≤ s → is_marked q s ≡ false
  collected_states s h = eq-false_of_not-eq-true none
    where
      none : is_marked q s ≡ true → ⊥
      none e =
          let m : RunTo q s = is_marked_run q s e in
          omega (arith, m.ends, walk_last (get_or q m.place []) (f.runs m.place m.within))

-- ---- one run tried with the states below n

-- After the states below n have been tried behind r, the runs q have become p. All of them are sooner than r with a later state, and
-- a state that passed the test has a run that is no later.
record Row (M : System) (next : ℕ → Bool) (r : List ℕ) (q : List (List ℕ)) (n : ℕ) (p : List (List ℕ)) : Type 0 where
  pub collected : Collected M p
  pub extends : Extends q p
  pub front : (k t : ℕ) → k < length p → n ≤ t → Sooner (get_or p k []) (r ++ (t ∷ []))
  pub tried : (t : ℕ) → t < n → next t ≡ true → Ahead p (r ++ (t ∷ []))

module _ {M : System} {next : ℕ → Bool} {r : List ℕ} {q : List (List ℕ)}
    (fits : (t : ℕ) → t < M.size → next t ≡ true → Run M (r ++ (t ∷ []))) where
  -- A state that does not pass the test, or is marked, is passed over;
  row_skipped : (t : ℕ) (p : List (List ℕ)) → (next t ≡ true → RunTo p t) → Row M next r q t p → Row M next r q (suc t) p
  row_skipped t p marked w = record {
    collected = w.collected;
    extends = w.extends;
    front = λ k u g i. w.front k u g (omega arith);
    tried = λ u g. below_more (λ u. next u ≡ true → Ahead p (r ++ (u ∷ []))) t w.tried here u (omega arith);
  }
    where
      here : next t ≡ true → Ahead p (r ++ (t ∷ []))
      here e =
          let m : RunTo p t = marked e in
          record {
            place = m.place;
            within = m.within;
            ends = m.ends ∙ sym (last_snoc r t);
            sooner = inr (w.front m.place t m.within (omega arith));
          }

  row_state : (t : ℕ) (p : List (List ℕ)) → t < M.size → Row M next r q t p → Row M next r q (suc t) (try_state next r t p)
  row_state t p h w = go (next t) (is_marked p t) refl refl
    where
      taken : next t ≡ true → is_marked p t ≡ false → Row M next r q (suc t) (p ++ ((r ++ (t ∷ [])) ∷ []))
      taken e f =
          let x : List ℕ = r ++ (t ∷ []) in
          record {
            collected = collected_snoc w.collected (fits t h e) (ap (is_marked p) (last_snoc r t) ∙ f) (λ k g. w.front k t g (omega arith));
            extends = extends_snoc x w.extends;
            front = λ k u g i.
                each_snoc (λ _ l. Sooner l (r ++ (u ∷ []))) p x (λ k g. w.front k u g (omega arith)) (sooner_last r (omega arith)) k g;
            tried = λ u g.
                below_more (λ u. next u ≡ true → Ahead (p ++ (x ∷ [])) (r ++ (u ∷ []))) t
                (λ u g e. ahead_kept (extends_snoc x (extends_refl p)) (w.tried u g e)) (λ _. ahead_new p x) u (omega arith);
          }

      go : (a b : Bool) → next t ≡ a → is_marked p t ≡ b → Row M next r q (suc t) (try_state next r t p)
      go false b e f = rw (try_state_fails next r t p e) (row_skipped t p (λ g. absurd (true≢false (sym g ∙ e))) w)
      go true true e f = rw (try_state_marked next r t p f) (row_skipped t p (λ _. is_marked_run p t f) w)
      go true false e f = rw (try_state_taken next r t p e f) (taken e f)

  -- and once every state is marked, so is every state that is left.
  row_pair : (t : ℕ) (c : Collection) → t < M.size → Row M next r q t c.runs → Row M next r q (suc t) (try_pair M.size next r t c).runs
  unfolding pair_tried
  row_pair t c h w =
      by_pair M.size next r (λ d. Row M next r q (suc t) d.runs) t c
      (λ full. row_skipped t c.runs (λ _. is_marked_run c.runs t (collected_full w.collected full t h)) w) (row_state t c.runs h w)

  row : (c : Collection) → Row M next r q 0 c.runs → (n : ℕ) → n ≤ M.size → Row M next r q n (try_row M.size next r n c).runs
  unfolding try_row
  row c begun zero h = begun
  row c begun (suc n) h = row_pair n (try_row M.size next r n c) (omega arith) (row c begun n (omega arith))

-- ---- the first i runs tried

-- The first i runs of q have been tried with every state: all runs are sooner than the next run with any state more, the start states
-- have runs of one state, and the states a step away from a tried run have runs no later than that run with the state more.
record Explored (M : System) (i : ℕ) (q : List (List ℕ)) : Type 0 where
  collected : Collected M q
  starts : (s : ℕ) → s < M.size → M.start s ≡ true → Ahead q (s ∷ [])
  closed : (j : ℕ) → j < i → j < length q → (t : ℕ) → t < M.size → M.step (last (get_or q j [])) t ≡ true
      → Ahead q (get_or q j [] ++ (t ∷ []))
  front : i < length q → (k t : ℕ) → k < length q → Sooner (get_or q k []) (get_or q i [] ++ (t ∷ []))

-- The start states are tried behind no state at all.
start_row : (M : System) (n : ℕ) → n ≤ M.size → Row M M.start [] [] n (starts_below M.start n)
unfolding starts_below
start_row M zero h = record {
  collected = collected_nil M;
  extends = extends_refl [];
  front = λ k t h. absurd (omega arith);
  tried = λ t h. absurd (omega arith);
}
start_row M (suc n) h = row_state (λ t h e. walk_one h e) n (starts_below M.start n) (omega arith) (start_row M n (omega arith))

explored_starts : (M : System) → Explored M 0 (starts_below M.start M.size)
explored_starts M = record {
  collected = w.collected;
  starts = w.tried;
  closed = λ j h. absurd (omega arith);
  front = λ h k t g. sooner_trans (w.front k M.size g (omega arith)) (sooner_snoc M.size t (no_state h));
}
  where
    w : Row M M.start [] [] M.size (starts_below M.start M.size)
    w = start_row M M.size (omega arith)

    no_state : 0 < length (starts_below M.start M.size) → Sooner [] (get_or (starts_below M.start M.size) 0 [])
    no_state h = record { shorter = omega arith; earlier = λ e. absurd (omega (arith, (w.collected.runs 0 h).nonempty)) }

-- The states are tried behind the next run.
module _ {M : System} {i : ℕ} (c : Collection) (x : Explored M i c.runs) (h : i < length c.runs) where
  abbrev q : List (List ℕ)
  q = c.runs

  next_row : (n : ℕ) → n ≤ M.size
      → Row M (M.step (last (get_or q i []))) (get_or q i []) q n (try_row M.size (M.step (last (get_or q i []))) (get_or q i []) n c).runs
  next_row = row (λ t b e. walk_snoc (get_or q i []) (x.collected.runs i h) b e) c (record {
    collected = x.collected;
    extends = extends_refl q;
    front = λ k t b _. x.front h k t b;
    tried = λ t b. absurd (omega arith);
  })

  explored_more : Explored M (i + 1) (try_row M.size (M.step (last (get_or q i []))) (get_or q i []) M.size c).runs
  explored_more = record {
    collected = w.collected;
    starts = λ s g e. ahead_kept w.extends (x.starts s g e);
    closed = λ j g _. below_more Closed i earlier (λ t b e. rw (same i h) (w.tried t b (rw (same i h) at e))) j g;
    front = λ g k t b.
        sooner_trans (w.front k M.size b (omega arith))
        (sooner_snoc M.size t (rw (same i h) at (w.collected.ordered i (i + 1) (omega arith) g)));
  }
    where
      p : List (List ℕ)
      p = (try_row M.size (M.step (last (get_or q i []))) (get_or q i []) M.size c).runs

      w : Row M (M.step (last (get_or q i []))) (get_or q i []) q M.size p
      w = next_row M.size (omega arith)

      same : (k : ℕ) → k < length q → get_or p k [] ≡ get_or q k []
      same = w.extends.kept

      Closed : ℕ → Type 0
      Closed j = (t : ℕ) → t < M.size → M.step (last (get_or p j [])) t ≡ true → Ahead p (get_or p j [] ++ (t ∷ []))

      earlier : (j : ℕ) → j < i → Closed j
      earlier j g t b e =
          let k : get_or p j [] ≡ get_or q j [] = same j (omega arith) in
          rw k (ahead_kept w.extends (x.closed j g (omega arith) t b (rw k at e)))

explored_is : (M : System) (i : ℕ) → Explored M i (explored M i).runs
explored_is M zero = rw (explored_zero M) (explored_starts M)
explored_is M (suc i) = go (explored_is M i)
  where
    go : Explored M i (explored M i).runs → Explored M (suc i) (explored M (suc i)).runs
    go x = rw (← add-one i) (by_run M (λ c. Explored M (i + 1) c.runs) i ended (explored_more (explored M i) x))
      where
        ended : length (explored M i).runs ≤ i → Explored M (i + 1) (explored M i).runs
        ended h = record {
          collected = x.collected;
          starts = x.starts;
          closed = λ j _ g. x.closed j (omega arith) g;
          front = λ g. absurd (omega arith);
        }

-- ---- the theorems

module _ (M : System) where
  -- At any time the runs found are runs, each sooner than the next, to as many states.
  pub explored_collected : (i : ℕ) → Collected M (explored M i).runs
  explored_collected i = (explored_is M i).collected

  -- A state a step away from the last state of a tried run is marked.
  pub explored_closed : (i j : ℕ) → j < i → j < length (explored M i).runs → (t : ℕ) → t < M.size
      → M.step (last (get_or (explored M i).runs j [])) t ≡ true → is_marked (explored M i).runs t ≡ true
  explored_closed i j h g t b e =
      let q : List (List ℕ) = (explored M i).runs in
      let a : Ahead q (get_or q j [] ++ (t ∷ [])) = (explored_is M i).closed j h g t b e in
      sym (ap (is_marked q) (a.ends ∙ last_snoc (get_or q j []) t)) ∙ is_marked_at q a.place a.within

  pub explored_short : (i : ℕ) → length (explored M i).runs ≤ M.size
  explored_short i = collected_short (explored_collected i)

  -- The search has ended as soon as every run found has been tried.
  pub search_ended : (i : ℕ) → length (explored M i).runs ≤ i → search M ≡ explored M i
  unfolding search
  search_ended i h = ⊎_elim late soon (dichotomy (leb i M.size))
    where
      soon : leb i M.size ≡ true → explored M M.size ≡ explored M i
      soon e = explored_stays M i h M.size (leb-true i M.size e)

      late : leb i M.size ≡ false → explored M M.size ≡ explored M i
      late e = sym (explored_stays M M.size (explored_short M.size) i (omega (arith, leb-false i M.size e)))

  pub search_collected : Collected M (search M).runs
  unfolding search
  search_collected = explored_collected M.size

  -- Every run of M has a run found to the same state that is no later.
  search_ahead : (r : List ℕ) → Run M r → Ahead (search M).runs r
  unfolding search
  search_ahead = walk_grows M (Ahead (explored M M.size).runs) further M.start (explored_is M M.size).starts
    where
      further : (l : List ℕ) (t : ℕ) → t < M.size → Ahead (explored M M.size).runs l → M.step (last l) t ≡ true
          → Ahead (explored M M.size).runs (l ++ (t ∷ []))
      further l t h a e =
          let k : List ℕ = get_or (explored M M.size).runs a.place [] in
          let tried : a.place < M.size = omega (arith, a.within, explored_short M.size) in
          let f : M.step (last k) t ≡ true = ap (λ s. M.step s t) a.ends ∙ e in
          let c : Ahead (explored M M.size).runs (k ++ (t ∷ [])) = (explored_is M M.size).closed a.place tried a.within t h f in
          record {
            place = c.place;
            within = c.within;
            ends = c.ends ∙ last_snoc k t ∙ sym (last_snoc l t);
            sooner = no_later_trans c.sooner (no_later_snoc t a.sooner);
          }

  -- The marks are the reached states.
  pub marks : (s : ℕ) → (is_marked (search M).runs s ≡ true) ↔ Reached M s
  marks s = (reached, marked)
    where
      reached : is_marked (search M).runs s ≡ true → Reached M s
      reached e =
          let m : RunTo (search M).runs s = is_marked_run (search M).runs s e in
          record { path = get_or (search M).runs m.place []; run = search_collected.runs m.place m.within; ends = m.ends }

      marked : Reached M s → is_marked (search M).runs s ≡ true
      marked r =
          let a : Ahead (search M).runs r.path = search_ahead r.path r.run in
          sym (ap (is_marked (search M).runs) (a.ends ∙ r.ends)) ∙ is_marked_at (search M).runs a.place a.within

  -- The system holds exactly if no marked state is bad.
  holds_marks : (holds M ≡ true) ↔ ((s : ℕ) → is_marked (search M).runs s ≡ true → M.bad s ≡ false)
  holds_marks = (
    λ e s m. ((holds_iff M).0 e).good s ((marks s).0 m),
    λ none. (holds_iff M).1 (record { good = λ s r. none s ((marks s).1 r) }),
  )

  -- The run found at place j ends in a bad state, and no run found before it does: then it is the trace.
  search_first : (j : ℕ) → j < length (search M).runs → M.bad (last (get_or (search M).runs j [])) ≡ true
      → ((k : ℕ) → k < j → M.bad (last (get_or (search M).runs k [])) ≡ false) → Trace M (get_or (search M).runs j [])
  search_first j h e none = record {
    breach = record { walk = search_collected.runs j h; ends = e };
    shortest = λ m b. no_later_length (no_later m b);
    first = λ m b g. no_later_first (no_later m b) (sym g);
  }
    where
      no_later : (m : List ℕ) → Breach M m → NoLater (get_or (search M).runs j []) m
      no_later m b =
          let a : Ahead (search M).runs m = search_ahead m b.walk in
          let not-before : ¬ (a.place < j) = λ g. true≢false (sym b.ends ∙ sym (ap M.bad a.ends) ∙ none a.place g) in
          no_later_trans
          (⊎_map (ap (λ k. get_or (search M).runs k [])) (λ g. search_collected.ordered j a.place g a.within)
          (eq-or-lt_of_le {n = j} {m = a.place} (omega arith)))
          a.sooner

  -- The first run found that ends in a bad state is the trace; where there is none, the trace has no state.
  pub search_trace : get_or (search M).runs (least (length (search M).runs) (λ k. M.bad (last (get_or (search M).runs k [])))) [] ≡ trace_of M
  search_trace = ⊎_elim held broken (dichotomy (ltb j (length (search M).runs)))
    where
      test : ℕ → Bool
      test k = M.bad (last (get_or (search M).runs k []))

      j : ℕ
      j = least (length (search M).runs) test

      is : IsLeast (length (search M).runs) test j
      is = least_is_least (length (search M).runs) test

      broken : ltb j (length (search M).runs) ≡ true → get_or (search M).runs j [] ≡ trace_of M
      broken e =
          let h : j < length (search M).runs = ltb-true j (length (search M).runs) e in
          (judged M).only (get_or (search M).runs j []) (search_first j h (is.passes h) is.before)

      good : length (search M).runs ≤ j → (s : ℕ) → is_marked (search M).runs s ≡ true → M.bad s ≡ false
      good h s m =
          let r : RunTo (search M).runs s = is_marked_run (search M).runs s m in
          ap M.bad (sym r.ends) ∙ is.before r.place (omega (arith, r.within))

      held : ltb j (length (search M).runs) ≡ false → get_or (search M).runs j [] ≡ trace_of M
      held e =
          let h : length (search M).runs ≤ j = ltb-false j (length (search M).runs) e in
          get_or-eq_default (search M).runs [] h ∙ sym ((judged M).held (holds_marks.1 (good h)))
