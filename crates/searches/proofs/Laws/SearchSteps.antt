-- The breadth-first search of `Search` one step at a time: its equations as code meets them, what a mark says of the runs found,
-- and when the search may stop. From the definitions and the laws of lists. Assumes nothing.
use Rattle.std.specs.Prelude.{ℕ, zero, suc, ◌+◌, ◌≤◌, ◌<◌, ◌≡◌, ◌≢◌, Bool, true, false, ◌&&◌, ◌||◌, List, [], ◌∷◌, ◌++◌, eqb, ltb, length, get_or}
use Rattle.std.proofs.Math.Path.{refl, ap, ap₂}
use Rattle.std.proofs.Common.{sym, ◌∙◌, ⊎_elim, arith, add-one, length-append}
use Rattle.std.proofs.Math.Bool.{not, cond, or_assoc, or-false, and-false}
use Rattle.std.proofs.lemmas.Bool.{false≢true}
use mathlib.Mathlib.Data.Bool.Basic.{dichotomy, or_inr}
use Rattle.std.proofs.Math.Decide.{le_ind}
use borrow.Author.Tests.{eqb-true, eqb-false, eq-eqb, ne_eqb, lt-ltb, le-ltb, ltb-true, ltb-false}
use Rattle.sets.specs.Gathered.{one}
use Rattle.systems.specs.Count.{count}
use Rattle.systems.specs.System.{System, last}
use Rattle.traces.specs.Marked.{is_marked}
use Rattle.searches.specs.Search.{Collection, try_state, starts_below, pair_tried, try_pair, try_row, explored}

-- ---- marks

pub is_marked_nil : (s : ℕ) → is_marked [] s ≡ false
unfolding is_marked
is_marked_nil s = refl

-- A run more marks its last state.
pub is_marked_snoc : (q : List (List ℕ)) (r : List ℕ) (s : ℕ) → is_marked (q ++ (r ∷ [])) s ≡ (is_marked q s || eqb (last r) s)
unfolding is_marked
is_marked_snoc [] r s = or-false (eqb (last r) s)
is_marked_snoc (p ∷ q) r s =
    ap (λ b. eqb (last p) s || b) (is_marked_snoc q r s) ∙ sym (or_assoc (eqb (last p) s) (is_marked q s) (eqb (last r) s))

-- The run at a place marks its last state;
pub is_marked_at : (q : List (List ℕ)) (j : ℕ) → j < length q → is_marked q (last (get_or q j [])) ≡ true
unfolding is_marked
is_marked_at [] j h = absurd (omega arith)
is_marked_at (r ∷ q) zero h = ap (λ b. b || is_marked q (last r)) (eq-eqb (last r) (last r) refl)
is_marked_at (r ∷ q) (suc j) h = or_inr (eqb (last r) (last (get_or q j []))) (is_marked q (last (get_or q j []))) (is_marked_at q j (omega arith))

-- One of the runs ends in state s.
pub record RunTo (q : List (List ℕ)) (s : ℕ) : Type 0 where
  pub place : ℕ
  pub within : place < length q
  pub ends : last (get_or q place []) ≡ s

-- A marked state is the last state of the run at some place.
pub is_marked_run : (q : List (List ℕ)) (s : ℕ) → is_marked q s ≡ true → RunTo q s
unfolding is_marked
is_marked_run [] s e = absurd (false≢true e)
is_marked_run (r ∷ q) s e = go (eqb (last r) s) refl (is_marked_run q s) e
  where
    go : (b : Bool) → eqb (last r) s ≡ b → (is_marked q s ≡ true → RunTo q s) → (b || is_marked q s) ≡ true → RunTo (r ∷ q) s
    go true f rest e = record { place = zero; within = omega arith; ends = eqb-true (last r) s f }
    go false f rest e = let m : RunTo q s = rest e in record { place = suc m.place; within = omega (arith, m.within); ends = m.ends }

-- ---- one step

module _ (next : ℕ → Bool) (r : List ℕ) where
  -- A state that passes the test and is not marked is found;
  pub try_state_taken : (t : ℕ) (q : List (List ℕ)) → next t ≡ true → is_marked q t ≡ false
      → try_state next r t q ≡ q ++ ((r ++ (t ∷ [])) ∷ [])
  unfolding try_state
  try_state_taken t q e f = ap₂ (λ a b. cond (a && not b) (q ++ ((r ++ (t ∷ [])) ∷ [])) q) e f

  -- one that fails it, or is marked, changes nothing.
  pub try_state_fails : (t : ℕ) (q : List (List ℕ)) → next t ≡ false → try_state next r t q ≡ q
  unfolding try_state
  try_state_fails t q e = ap (λ a. cond (a && not (is_marked q t)) (q ++ ((r ++ (t ∷ [])) ∷ [])) q) e

  pub try_state_marked : (t : ℕ) (q : List (List ℕ)) → is_marked q t ≡ true → try_state next r t q ≡ q
  unfolding try_state
  try_state_marked t q e =
      ap (λ b. cond (next t && not b) (q ++ ((r ++ (t ∷ [])) ∷ [])) q) e ∙ ap (λ a. cond a (q ++ ((r ++ (t ∷ [])) ∷ [])) q) (and-false (next t))

-- The start states, one by one.
module _ (start : ℕ → Bool) where
  pub starts_below_zero : starts_below start 0 ≡ []
  unfolding starts_below
  starts_below_zero = refl

  pub starts_below_next : (s : ℕ) → starts_below start (s + 1) ≡ try_state start [] s (starts_below start s)
  unfolding starts_below
  starts_below_next s = ap (starts_below start) (add-one s)

-- The next one has no mark yet,
pub next_unmarked : (start : ℕ → Bool) (n u : ℕ) → n ≤ u → is_marked (starts_below start n) u ≡ false
unfolding starts_below try_state
next_unmarked start zero u h = is_marked_nil u
next_unmarked start (suc n) u h = go (start n && not (is_marked p n)) (next_unmarked start n u (omega arith))
  where
    p : List (List ℕ)
    p = starts_below start n

    go : (b : Bool) → is_marked p u ≡ false → is_marked (cond b (p ++ ((n ∷ []) ∷ [])) p) u ≡ false
    go true e = is_marked_snoc p (n ∷ []) u ∙ ap₂ ◌||◌ e (ne_eqb n u (λ e. omega arith))
    go false e = e

-- so there are as many runs as start states.
pub length_starts : (start : ℕ → Bool) (n : ℕ) → length (starts_below start n) ≡ count n start
unfolding starts_below count
length_starts start zero = refl
length_starts start (suc n) = go (start n) refl (length_starts start n)
  where
    p : List (List ℕ)
    p = starts_below start n

    go : (b : Bool) → start n ≡ b → length p ≡ count n start → length (try_state start [] n p) ≡ count n start + one b
    go true e f =
        omega (arith, f, ap length (try_state_taken start [] n p e (next_unmarked start n n (omega arith))), length-append p ((n ∷ []) ∷ []))
    go false e f = omega (arith, f, ap length (try_state_fails start [] n p e))

-- A pair that is tried counts one, whether its second state is marked or not.
pub pair_tried_counts : (next : ℕ → Bool) (r : List ℕ) (t : ℕ) (c : Collection) → (pair_tried next r t c).pairs ≡ c.pairs + 1
unfolding pair_tried
pair_tried_counts next r t c = refl

-- It is tried where not every state is marked, and where every one is, the search has ended.
module _ (size : ℕ) (next : ℕ → Bool) (r : List ℕ) where
  pub try_pair_tried : (t : ℕ) (c : Collection) → length c.runs ≢ size → try_pair size next r t c ≡ pair_tried next r t c
  unfolding try_pair
  try_pair_tried t c h = ap (λ b. cond b c (pair_tried next r t c)) (ne_eqb (length c.runs) size h)

  try_pair_ended : (t : ℕ) (c : Collection) → length c.runs ≡ size → try_pair size next r t c ≡ c
  unfolding try_pair
  try_pair_ended t c e = ap (λ b. cond b c (pair_tried next r t c)) (eq-eqb (length c.runs) size e)

  -- What is true in both cases.
  pub by_pair : (P : Collection → Type 0) (t : ℕ) (c : Collection) → (length c.runs ≡ size → P c) → P (pair_tried next r t c)
      → P (try_pair size next r t c)
  by_pair P t c ended tried =
      let n : ℕ = length c.runs in
      ⊎_elim (λ e. rw (try_pair_tried t c (eqb-false n size e)) tried)
      (λ e. let full = eqb-true n size e in rw (try_pair_ended t c full) (ended full)) (dichotomy (eqb n size))

  pub try_row_zero : (c : Collection) → try_row size next r 0 c ≡ c
  unfolding try_row
  try_row_zero c = refl

  pub try_row_next : (t : ℕ) (c : Collection) → try_row size next r (t + 1) c ≡ try_pair size next r t (try_row size next r t c)
  unfolding try_row
  try_row_next t c = ap (λ n. try_row size next r n c) (add-one t)

  -- Once every state is marked, a row stays as it is.
  pub try_row_stays : (t : ℕ) (c : Collection) → length (try_row size next r t c).runs ≡ size → (n : ℕ) → t ≤ n
      → try_row size next r n c ≡ try_row size next r t c
  try_row_stays t c e =
      le_ind (λ n. try_row size next r n c ≡ try_row size next r t c) refl
      (λ n h q.
      sym (ap (λ m. try_row size next r m c) (add-one n)) ∙ try_row_next n c
      ∙ try_pair_ended n (try_row size next r n c) (ap (λ x. length x.runs) q ∙ e) ∙ q)

module _ (M : System) where
  pub explored_zero : explored M 0 ≡ record { runs = starts_below M.start M.size; pairs = 0 }
  unfolding explored
  explored_zero = refl

  -- What has been collected once the run at place i has been tried with every state, too.
  abbrev pub row_at : ℕ → Collection
  row_at i = let r = get_or (explored M i).runs i [] in try_row M.size (M.step (last r)) r M.size (explored M i)

  -- Where there is a run at place i, it is tried with every state;
  pub explored_next : (i : ℕ) → i < length (explored M i).runs → explored M (i + 1) ≡ row_at i
  unfolding explored
  explored_next i h = rw (add-one, lt-ltb i (length (explored M i).runs) h)

  -- where there is none, the search has ended
  pub explored_ended : (i : ℕ) → length (explored M i).runs ≤ i → explored M (i + 1) ≡ explored M i
  unfolding explored
  explored_ended i h = rw (add-one, le-ltb i (length (explored M i).runs) h)

  -- and stays so;
  pub explored_stays : (i : ℕ) → length (explored M i).runs ≤ i → (j : ℕ) → i ≤ j → explored M j ≡ explored M i
  explored_stays i h =
      le_ind (λ j. explored M j ≡ explored M i) refl
      (λ j g e. sym (ap (explored M) (add-one j)) ∙ explored_ended j (omega (arith, ap (λ c. length c.runs) e)) ∙ e)

  -- What is true in both cases.
  pub by_run : (P : Collection → Type 0) (i : ℕ) → (length (explored M i).runs ≤ i → P (explored M i))
      → (i < length (explored M i).runs → P (row_at i)) → P (explored M (i + 1))
  by_run P i ended more =
      let n : ℕ = length (explored M i).runs in
      ⊎_elim (λ e. let h = ltb-false i n e in rw (explored_ended i h) (ended h)) (λ e. let h = ltb-true i n e in rw (explored_next i h) (more h))
      (dichotomy (ltb i n))

  -- Where every state is marked, the search has ended and stays so, too.
  pub explored_full : (i : ℕ) → length (explored M i).runs ≡ M.size → (j : ℕ) → i ≤ j → explored M j ≡ explored M i
  explored_full i full =
      le_ind (λ j. explored M j ≡ explored M i) refl
      (λ j g e.
      sym (ap (explored M) (add-one j))
      ∙ by_run (λ c. c ≡ explored M j) j (λ _. refl) (λ _. row j (ap (λ c. length c.runs) e ∙ full)) ∙ e)
    where
      row : (j : ℕ) → length (explored M j).runs ≡ M.size → row_at j ≡ explored M j
      row j f =
          let r : List ℕ = get_or (explored M j).runs j [] in
          let none : try_row M.size (M.step (last r)) r 0 (explored M j) ≡ explored M j = try_row_zero M.size (M.step (last r)) r (explored M j) in
          try_row_stays M.size (M.step (last r)) r 0 (explored M j) (ap (λ c. length c.runs) none ∙ f) M.size (omega arith) ∙ none
