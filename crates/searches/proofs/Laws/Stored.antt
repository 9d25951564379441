-- What `searches::breadth_first::reached` answers: the marks are the reached states, and the count is how many marks are set. From the laws of the
-- search. Assumes nothing.
use Rattle.std.specs.Prelude.{ℕ, ◌≤◌, ◌≡◌, ◌↔◌, true}
use Rattle.std.proofs.Math.Path.{sym}
use Rattle.std.proofs.Common.{◌∙◌, arith}
use Rattle.std.proofs.Math.Logic.{⊎_elim}
use Rattle.std.proofs.Math.Bool.{false}
use mathlib.Mathlib.Data.Bool.Basic.{dichotomy}
use borrow.Author.Tests.{ltb-true, ltb-false}
use Rattle.std.proofs.Math.Dec.{ltb}
use Rattle.std.proofs.Math.ListN.{get_or, get_or-eq_default}
use Rattle.sets.specs.Tabulated.{tabulate}
use Rattle.sets.specs.Laws.Tabulated.{length_tabulate, get_d_tabulate}
use Rattle.systems.specs.Count.{count}
use Rattle.systems.specs.System.{System, Reached}
use Rattle.traces.specs.Marked.{is_marked}
use Rattle.searches.specs.Search.{search}
use Rattle.searches.specs.Stored.{reached_of}
use Rattle.systems.specs.Laws.Count.{count_past, count_same}
use Rattle.searches.proofs.Laws.Search.{collected_states, search_collected, marks}

-- Where no state is past the marks, they are those of the search.
module _ (M : System) (small : M.size ≤ 128) where
  marks_all : (s : ℕ) → get_or (reached_of M).marks s false ≡ is_marked (search M).runs s
  unfolding reached_of
  marks_all s = ⊎_elim past (λ e. get_d_tabulate 128 (is_marked (search M).runs) false s (ltb-true s 128 e)) (dichotomy (ltb s 128))
    where
      past : ltb s 128 ≡ false → get_or (tabulate 128 (is_marked (search M).runs)) s false ≡ is_marked (search M).runs s
      past e =
          let h : 128 ≤ s = ltb-false s 128 e in
          get_or-eq_default (tabulate 128 (is_marked (search M).runs)) false {n = s} (omega (arith, length_tabulate 128 (is_marked (search M).runs)))
          ∙ sym (collected_states (search_collected M) s (omega arith))

  -- A state is marked exactly if it is reached,
  pub reached_marks : (s : ℕ) → (get_or (reached_of M).marks s false ≡ true) ↔ Reached M s
  reached_marks s = (λ e. (marks M s).0 (sym (marks_all s) ∙ e), λ r. marks_all s ∙ (marks M s).1 r)

  -- and the count is how many marks are set.
  pub reached_count : (reached_of M).count ≡ count 128 (λ s. get_or (reached_of M).marks s false)
  unfolding reached_of
  reached_count =
      (search_collected M).counted
      ∙ sym (count_past (is_marked (search M).runs) M.size (collected_states (search_collected M)) 128 small)
      ∙ count_same (is_marked (search M).runs) (λ s. get_or (reached_of M).marks s false) 128 (λ s _. sym (marks_all s))
