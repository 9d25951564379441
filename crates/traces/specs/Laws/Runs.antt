-- The runs that the list of a search holds: the run at a place is the one at its parent's place and one state more, which stands there; there are as
-- many as the list has entries, and an entry more is a run more. From the definitions and the laws of lists. Assumes nothing.
use Prim.Native.Nat.{ℕ, zero, suc, ◌≤◌, ◌<◌}
use Rattle.std.specs.Prelude.{◌≡◌, ◌+◌, Option, None, Some, length, get_or}
use Rattle.std.proofs.Math.Path.{refl}
use Rattle.std.proofs.Common.{sym, ap, ◌∙◌, arith}
use mathlib.Core.List.{List, [], ◌∷◌, ◌++◌}
use borrow.Author.Count.{below_more}
use native.Mathlib.Numerals.{add-one}
use Rattle.std.proofs.Math.ListN.{length-append, get_or-append}
use Rattle.std.proofs.Math.Seq.{get_or-append_seam}
use Rattle.std.proofs.lemmas.List.{get_or_at}
use Rattle.std.proofs.lemmas.List.Elements.{All-push}
use Rattle.traces.specs.declared.runs.Run.{Run}
use Rattle.systems.specs.System.{last}
use Rattle.systems.specs.Laws.Walks.{last_snoc}
use Rattle.traces.specs.Stored.{no_run, before, runs_to, runs_in, Chained}

-- One run more leaves what stands before a run that extends an earlier one, or none.
pub same_before : (q : List (List ℕ)) (r : List ℕ) (parent : Option ℕ) → ((p : ℕ) → parent ≡ Some p → p < length q)
    → before (q ++ (r ∷ [])) parent ≡ before q parent
unfolding before
same_before q r None within = refl
same_before q r (Some p) within = get_or-append q (r ∷ []) [] p (within p refl)

-- What is stored behind the first n runs leaves them.
runs_front : (runs more : List Run) (n : ℕ) → n ≤ length runs → runs_to (runs ++ more) n ≡ runs_to runs n
unfolding runs_to
runs_front runs more zero h = refl
runs_front runs more (suc n) h = rw (runs_front runs more n (omega arith), get_or-append runs more no_run n (omega arith))

-- One entry more is one run more.
pub runs_snoc : (runs : List Run) (r : Run) → runs_in (runs ++ (r ∷ [])) ≡ runs_in runs ++ ((before (runs_in runs) r.parent ++ (r.last ∷ [])) ∷ [])
unfolding runs_in runs_to
runs_snoc runs r = rw (length-append, add-one, runs_front runs (r ∷ []) (length runs) (omega arith), get_or-append_seam runs r [] no_run)

module _ (runs : List Run) where
  length_runs : (n : ℕ) → length (runs_to runs n) ≡ n
  unfolding runs_to
  length_runs zero = refl
  length_runs (suc n) = simp length-append (omega (arith, length_runs n))

  runs_at : (n : ℕ) → ((k p : ℕ) → k < n → (get_or runs k no_run).parent ≡ Some p → p < k) → (k : ℕ) → k < n
      → get_or (runs_to runs n) k [] ≡ before (runs_to runs n) (get_or runs k no_run).parent ++ ((get_or runs k no_run).last ∷ [])
  unfolding runs_to
  runs_at zero earlier k g = absurd (omega arith)
  runs_at (suc n) earlier k g =
      below_more At n (λ k g. old k g (runs_at n (λ k p g. earlier k p (omega arith)) k g))
      (get_or_at q new [] [] n (length_runs n) ∙ kept n (omega arith)) k (omega arith)
    where
      q : List (List ℕ)
      q = runs_to runs n

      new : List ℕ
      new = before q (get_or runs n no_run).parent ++ ((get_or runs n no_run).last ∷ [])

      At : ℕ → Type 0
      At k = get_or (q ++ (new ∷ [])) k [] ≡ before (q ++ (new ∷ [])) (get_or runs k no_run).parent ++ ((get_or runs k no_run).last ∷ [])

      kept : (k : ℕ) → k < suc n
          → before q (get_or runs k no_run).parent ++ ((get_or runs k no_run).last ∷ [])
          ≡ before (q ++ (new ∷ [])) (get_or runs k no_run).parent ++ ((get_or runs k no_run).last ∷ [])
      kept k g =
          ap (λ r. r ++ ((get_or runs k no_run).last ∷ []))
          (sym (same_before q new (get_or runs k no_run).parent (λ p e. omega (arith, earlier k p g e, length_runs n))))

      old : (k : ℕ) → k < n
          → get_or q k [] ≡ before q (get_or runs k no_run).parent ++ ((get_or runs k no_run).last ∷ []) → At k
      old k g e = get_or-append q (new ∷ []) [] k (omega (arith, length_runs n)) ∙ e ∙ kept k (omega arith)

pub length_runs_in : (runs : List Run) → length (runs_in runs) ≡ length runs
unfolding runs_in
length_runs_in runs = length_runs runs (length runs)

module _ {runs : List Run} (s : Chained runs) where
  pub chained_run : (k : ℕ) → k < length runs
      → get_or (runs_in runs) k [] ≡ before (runs_in runs) (get_or runs k no_run).parent ++ ((get_or runs k no_run).last ∷ [])
  unfolding runs_in
  chained_run = runs_at runs (length runs) s.earlier

  pub chained_last : (k : ℕ) → k < length runs → last (get_or (runs_in runs) k []) ≡ (get_or runs k no_run).last
  chained_last k h =
      ap last (chained_run k h) ∙ last_snoc (before (runs_in runs) (get_or runs k no_run).parent) (get_or runs k no_run).last

-- No run is chained,
pub chained_none : Chained []
chained_none = record { few = omega arith; states = λ k d h. absurd (omega arith); earlier = λ k p h e. absurd (omega arith) }

-- and one more that extends one of those that are there, or none.
pub chained_snoc : {runs : List Run} → Chained runs → (r : Run) → length runs < 128 → r.last < 128 → ((p : ℕ) → r.parent ≡ Some p → p < length runs)
    → Chained (runs ++ (r ∷ []))
chained_snoc {runs} c r room state within = record {
  few = simp length-append (omega (arith, room));
  states = All-push (λ run. run.last < 128) runs r c.states state;
  earlier = λ k p h e. before_it k (simp length-append at h) p e;
}
  where
    Earlier : ℕ → Type 0
    Earlier k = (p : ℕ) → (get_or (runs ++ (r ∷ [])) k no_run).parent ≡ Some p → p < k

    before_it : (k : ℕ) → k < length runs + 1 → Earlier k
    before_it =
        below_more Earlier (length runs) (λ k g p e. c.earlier k p g (rw (get_or-append runs (r ∷ []) no_run k g) at e))
        (λ p e. within p (rw (get_or-append_seam runs r [] no_run) at e))
