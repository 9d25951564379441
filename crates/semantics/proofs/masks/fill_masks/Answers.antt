-- `fill_masks`: each turn fills a row, and behind the loop comes that of the start masks. From the laws of a table that is filled row by row.
use Rattle.std.specs.Prelude.{ℕ, ◌<◌, ◌≡◌, List}
use Rattle.std.proofs.Common.{arith, ◌∙◌, lt-ltb, le-ltb}
use Rattle.sets.specs.Tabulated.{tabulate}
use Rattle.sets.specs.Laws.Tabulated.{same_entries}
use Rattle.rule_lines.specs.declared.names.RuleParts.{RuleParts}
use Rattle.semantics.specs.Places.{mask_by, start_mask_by, mask_row_by}
use Rattle.semantics.proofs.Filling.{none_of_rows, row_added, one_row_more, all_rows}
use Rattle.semantics.proofs.masks.fill_masks.Goals as goal

-- the entries of a row
module _ (text : List ℕ) (rules : List RuleParts) (states n : ℕ) where
  state_row : (s : ℕ) → s < states → tabulate n (mask_by text rules s) ≡ tabulate n (mask_row_by text rules states s)
  unfolding mask_row_by
  state_row s l = same_entries n (mask_by text rules s) (mask_row_by text rules states s) (λ t _. rw (lt-ltb s states l))

  start_row : tabulate n (start_mask_by text rules) ≡ tabulate n (mask_row_by text rules states states)
  unfolding mask_row_by
  start_row = same_entries n (start_mask_by text rules) (mask_row_by text rules states states) (λ t _. rw (le-ltb states states (omega arith)))

pub loop-s-init : goal.loop-s-init
loop-s-init c = none_of_rows _ _ _ c.requires.few c.requires.room

pub loop-s-preserved : goal.loop-s-preserved
loop-s-preserved c = one_row_more _ _ _ _ _ c.loop-s.invariant _ c.loop-s-test.true (c.fill_row.ensures ∙ state_row _ _ _ _ _ c.loop-s-test.true)

pub returns : goal.returns
returns c = row_added _ _ _ _ _ (all_rows _ _ _ _ _ c.loop-s.invariant c.loop-s-test.false) _ (c.fill_starts.ensures ∙ start_row _ _ _ _)
