-- How many pairs the search of `Search` tries: what document 02 says of them (`Collecting`) is true for every transition system, and systems that agree
-- on their states have the same search. From the steps of the search and from what it finds. Assumes nothing.
use Prim.Native.Nat.{ℕ, zero, suc, ◌+◌, ◌*◌, ◌≤◌, ◌<◌}
use Rattle.std.specs.Prelude.{◌≡◌, refl, Bool, ◌&&◌, List, [], ◌∷◌, ◌++◌, eqb, get_or}
use Rattle.std.proofs.Common.{sym, ◌∙◌, add-one, ltb-true, ltb-false}
use Rattle.std.proofs.Math.Path.{ap}
use Rattle.std.proofs.Math.Logic.{⊎_elim}
use Rattle.std.proofs.Math.Bool.{true, false, not, cond}
use mathlib.Mathlib.Data.Bool.Basic.{dichotomy, eq-false_of_not-eq-true}
use Rattle.std.proofs.Math.Decide.{le_ind}
use native.Mathlib.Omega.{arith}
use Rattle.std.proofs.Math.Dec.{ltb}
use Rattle.std.proofs.Math.ListN.{length, length-append}
use Rattle.sets.specs.Tabulated.{tabulate}
use Rattle.systems.specs.Count.{count}
use Rattle.systems.specs.Laws.Count.{count_all, count_less, count_same}
use Rattle.systems.specs.Laws.Compare.{Same}
use Rattle.systems.specs.Laws.Walks.{walk_last}
use Rattle.systems.specs.System.{System, last}
use Rattle.traces.specs.Marked.{is_marked}
use Rattle.searches.specs.Search.{Collection, try_state, starts_below, pair_tried, try_pair, try_row, explored, search}
use Rattle.searches.specs.Stored.{reached_of}
use Rattle.searches.specs.Collecting.{Collecting}
use Rattle.searches.proofs.Laws.Search.{explored_collected, explored_closed, search_collected, search_ended, marks}
use Rattle.searches.proofs.Laws.SearchSteps.{length_starts, pair_tried_counts, by_pair, explored_zero, row_at, explored_next, explored_ended, by_run, explored_full}

-- ---- each pair adds at most one run

-- d has all runs of c and perhaps more, at least one pair for each of them.
record Grown (c d : Collection) : Type 0 where
  pub longer : length c.runs ≤ length d.runs
  pub paid : length d.runs + c.pairs ≤ length c.runs + d.pairs

grown_refl : (c : Collection) → Grown c c
grown_refl c = record { longer = omega arith; paid = omega arith }

grown_trans : {c d e : Collection} → Grown c d → Grown d e → Grown c e
grown_trans a b = record { longer = omega (arith, a.longer, b.longer); paid = omega (arith, a.paid, b.paid) }

module _ (size : ℕ) (next : ℕ → Bool) (r : List ℕ) where
  tried_grown : (t : ℕ) (c : Collection) → Grown c (pair_tried next r t c)
  unfolding pair_tried try_state
  tried_grown t c = go (next t && not (is_marked c.runs t))
    where
      go : (b : Bool) → Grown c (record { runs = cond b (c.runs ++ ((r ++ (t ∷ [])) ∷ [])) c.runs; pairs = c.pairs + 1 })
      go true =
          let n = length-append c.runs ((r ++ (t ∷ [])) ∷ []) in
          record { longer = omega (arith, n); paid = omega (arith, n) }
      go false = record { longer = omega arith; paid = omega arith }

  row_grown : (n : ℕ) (c : Collection) → Grown c (try_row size next r n c)
  unfolding try_row
  row_grown zero c = grown_refl c
  row_grown (suc n) c =
      let d : Collection = try_row size next r n c in
      by_pair size next r (Grown c) n d (λ _. row_grown n c) (grown_trans (row_grown n c) (tried_grown n d))

  row_few : (n : ℕ) (c : Collection) → (try_row size next r n c).pairs ≤ c.pairs + n
  unfolding try_row
  row_few zero c = omega arith
  row_few (suc n) c =
      by_pair size next r (λ d. d.pairs ≤ c.pairs + suc n) n (try_row size next r n c) (λ _. omega (arith, row_few n c))
      (omega (arith, row_few n c, pair_tried_counts next r n (try_row size next r n c)))

  -- Where not every state is marked after a row, each of its pairs has been tried.
  row_whole : (n : ℕ) (c : Collection) → length (try_row size next r n c).runs < size → (try_row size next r n c).pairs ≡ c.pairs + n
  unfolding try_row
  row_whole zero c h = omega arith
  row_whole (suc n) c h =
      let d : Collection = try_row size next r n c in
      by_pair size next r (λ e. length e.runs < size → e.pairs ≡ c.pairs + suc n) n d (λ full g. absurd (omega arith))
      (λ g. omega (arith, row_whole n c (omega (arith, (tried_grown n d).longer)), pair_tried_counts next r n d)) h

-- ---- the rows

module _ (M : System) where
  explored_grown : (i j : ℕ) → i ≤ j → Grown (explored M i) (explored M j)
  explored_grown i = le_ind (λ j. Grown (explored M i) (explored M j)) (grown_refl (explored M i)) (λ j h g. rw (← add-one j) (next j g))
    where
      next : (j : ℕ) → Grown (explored M i) (explored M j) → Grown (explored M i) (explored M (j + 1))
      next j g = by_run M (Grown (explored M i)) j (λ _. g) (λ _. grown_trans g (row_grown M.size _ _ M.size (explored M j)))

  -- A row has at most as many pairs as there are states,
  pub explored_pairs : (i : ℕ) → (explored M i).pairs ≤ M.size * i
  explored_pairs zero = omega (arith, ap (λ c. c.pairs) (explored_zero M))
  explored_pairs (suc i) =
      let r : List ℕ = get_or (explored M i).runs i [] in
      rw (← add-one i) (by_run M (λ c. c.pairs ≤ M.size * (i + 1)) i (λ _. omega (arith, explored_pairs i))
      (λ _. omega (arith, explored_pairs i, row_few M.size (M.step (last r)) r M.size (explored M i))))

  pub search_pairs : (search M).pairs ≤ M.size * M.size
  unfolding search
  search_pairs = explored_pairs M.size

  -- and as many while not every state is marked.
  whole_rows : (i : ℕ) → i ≤ length (explored M i).runs → length (explored M i).runs < M.size → (explored M i).pairs ≡ M.size * i
  whole_rows zero = λ h g. omega (arith, ap (λ c. c.pairs) (explored_zero M))
  whole_rows (suc i) = rw (← add-one i) (by_run M Whole i (λ e h. absurd (omega arith)) (more (whole_rows i)))
    where
      Whole : Collection → Type 0
      Whole c = i + 1 ≤ length c.runs → length c.runs < M.size → c.pairs ≡ M.size * (i + 1)

      more : (i ≤ length (explored M i).runs → length (explored M i).runs < M.size → (explored M i).pairs ≡ M.size * i)
          → i < length (explored M i).runs → Whole (row_at M i)
      more before b h g =
          let r : List ℕ = get_or (explored M i).runs i [] in
          omega (
            arith,
            row_whole M.size (M.step (last r)) r M.size (explored M i) g,
            before (omega arith) (omega (arith, (row_grown M.size (M.step (last r)) r M.size (explored M i)).longer)),
          )

  -- ---- the theorem

  starts_count : length (explored M 0).runs ≡ count M.size M.start
  starts_count = ap (λ c. length c.runs) (explored_zero M) ∙ length_starts M.start M.size

  some_left : length (search M).runs < M.size → (search M).pairs ≡ M.size * length (search M).runs
  unfolding search
  some_left h = ap (λ c. c.pairs) same ∙ whole_rows n (omega (arith, ap (λ c. length c.runs) same)) (omega (arith, ap (λ c. length c.runs) same))
    where
      n : ℕ
      n = length (explored M M.size).runs

      same : explored M M.size ≡ explored M n
      same = search_ended M n (explored_grown n M.size (omega arith)).longer

  all_start : ((s : ℕ) → s < M.size → M.start s ≡ true) → (search M).pairs ≡ 0
  unfolding search
  all_start all =
      ap (λ c. c.pairs) (explored_full M 0 (starts_count ∙ count_all M.start M.size all) M.size (omega arith))
      ∙ ap (λ c. c.pairs) (explored_zero M)

  all_steps : ((s t : ℕ) → s < M.size → t < M.size → M.step s t ≡ true) → (search M).pairs ≤ M.size
  unfolding search
  all_steps all = ⊎_elim none some (dichotomy (ltb 0 (length (explored M 0).runs)))
    where
      none : ltb 0 (length (explored M 0).runs) ≡ false → (explored M M.size).pairs ≤ M.size
      none e =
          omega (
            arith,
            ap (λ c. c.pairs) (search_ended M 0 (ltb-false 0 (length (explored M 0).runs) e)),
            ap (λ c. c.pairs) (explored_zero M),
          )

      some : ltb 0 (length (explored M 0).runs) ≡ true → (explored M M.size).pairs ≤ M.size
      some e = omega (arith, ap (λ c. c.pairs) (explored_full M 1 full M.size (omega (arith, first))), explored_pairs 1)
        where
          q : List (List ℕ)
          q = (explored M 1).runs

          any : 0 < length q
          any = omega (arith, ltb-true 0 (length (explored M 0).runs) e, (explored_grown 0 1 (omega arith)).longer)

          first : last (get_or q 0 []) < M.size
          first = walk_last (get_or q 0 []) ((explored_collected M 1).runs 0 any)

          full : length q ≡ M.size
          full =
              (explored_collected M 1).counted
              ∙ count_all (is_marked q) M.size (λ t h. explored_closed M 1 0 (omega arith) any t h (all (last (get_or q 0 [])) t first h))

  pub collecting : Collecting M (is_marked (search M).runs) (search M).pairs
  unfolding search
  collecting = record {
    marks = λ s _. marks M s;
    some_left = λ s h none.
        let less = count_less (is_marked (search M).runs) M.size s h (eq-false_of_not-eq-true (λ e. none ((marks M s).0 e))) in
        some_left (omega (arith, less, (search_collected M).counted)) ∙ ap (λ n. M.size * n) (search_collected M).counted;
    added = omega (
      arith,
      (explored_grown 0 M.size (omega arith)).paid,
      (search_collected M).counted,
      starts_count,
      ap (λ c. c.pairs) (explored_zero M),
    );
    all_start = all_start;
    all_steps = all_steps;
  }

-- It is told by the marks of the states alone.
pub same_marks : {M : System} {p q : ℕ → Bool} {pairs : ℕ} → ((s : ℕ) → s < M.size → p s ≡ q s) → Collecting M p pairs → Collecting M q pairs
same_marks {M} {p} {q} same c = record {
  marks = λ s h. (λ e. (c.marks s h).0 (same s h ∙ e), λ r. sym (same s h) ∙ (c.marks s h).1 r);
  some_left = λ s h none. c.some_left s h none ∙ ap (λ n. M.size * n) counts;
  added = rw counts at c.added;
  all_start = c.all_start;
  all_steps = c.all_steps;
}
  where
    counts : count M.size p ≡ count M.size q
    counts = count_same p q M.size same

-- ---- systems that agree on their states

state_same : (p q : ℕ → Bool) (r : List ℕ) (t : ℕ) → p t ≡ q t → (l : List (List ℕ)) → try_state p r t l ≡ try_state q r t l
unfolding try_state
state_same p q r t e l = ap (λ b. cond (b && not (is_marked l t)) (l ++ ((r ++ (t ∷ [])) ∷ [])) l) e

starts_same : (p q : ℕ → Bool) (n : ℕ) → ((s : ℕ) → s < n → p s ≡ q s) → starts_below p n ≡ starts_below q n
unfolding starts_below
starts_same p q zero same = refl
starts_same p q (suc n) same =
    state_same p q [] n (same n (omega arith)) (starts_below p n) ∙ ap (try_state q [] n) (starts_same p q n (λ s h. same s (omega arith)))

row_same : (size : ℕ) (p q : ℕ → Bool) (r : List ℕ) (n : ℕ) (c : Collection) → ((t : ℕ) → t < n → p t ≡ q t)
    → try_row size p r n c ≡ try_row size q r n c
unfolding try_row try_pair pair_tried
row_same size p q r zero c same = refl
row_same size p q r (suc n) c same =
    let d : Collection = try_row size p r n c in
    ap (λ l. cond (eqb (length d.runs) size) d (record { runs = l; pairs = d.pairs + 1 })) (state_same p q r n (same n (omega arith)) d.runs)
    ∙ ap (try_pair size q r n) (row_same size p q r n c (λ t h. same t (omega arith)))

module _ {N M : System} (e : Same N M) where
  explored_same : (i : ℕ) → explored N i ≡ explored M i
  explored_same zero =
      explored_zero N
      ∙ ap (λ l. record { runs = l; pairs = 0 })
      (starts_same N.start M.start N.size e.start ∙ ap (starts_below M.start) e.size)
      ∙ sym (explored_zero M)
  explored_same (suc i) = rw (← add-one i) (next (explored_same i))
    where
      c : Collection
      c = explored N i

      r : List ℕ
      r = get_or c.runs i []

      next : c ≡ explored M i → explored N (i + 1) ≡ explored M (i + 1)
      next same = ⊎_elim ended more (dichotomy (ltb i (length c.runs)))
        where
          size_same : length c.runs ≡ length (explored M i).runs
          size_same = ap (λ d. length d.runs) same

          ended : ltb i (length c.runs) ≡ false → explored N (i + 1) ≡ explored M (i + 1)
          ended f =
              let h : length c.runs ≤ i = ltb-false i (length c.runs) f in
              explored_ended N i h ∙ same ∙ sym (explored_ended M i (omega (arith, h, size_same)))

          more : ltb i (length c.runs) ≡ true → explored N (i + 1) ≡ explored M (i + 1)
          more f =
              let h : i < length c.runs = ltb-true i (length c.runs) f in
              let state : last r < N.size = walk_last r ((explored_collected N i).runs i h) in
              explored_next N i h
              ∙ row_same N.size (N.step (last r)) (M.step (last r)) r N.size c (λ t g. e.step (last r) t state g)
              ∙ ap (λ n. try_row n (M.step (last r)) r n c) e.size
              ∙ ap (λ d. let m = get_or d.runs i [] in try_row M.size (M.step (last m)) m M.size d) same
              ∙ sym (explored_next M i (omega (arith, h, size_same)))

  same_search : search N ≡ search M
  unfolding search
  same_search = explored_same N.size ∙ ap (explored M) e.size

  pub same_reached_of : reached_of N ≡ reached_of M
  unfolding reached_of
  same_reached_of =
      ap (λ c. record { marks = tabulate 128 (is_marked c.runs); count = length c.runs; pairs = c.pairs }) same_search
