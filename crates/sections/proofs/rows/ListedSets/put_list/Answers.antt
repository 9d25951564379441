-- The count line and the lines of the sets are put one after the other.
use Rattle.std.proofs.Common.{ℕ, ◌/◌, ◌≡◌, ◌++◌, List, length, sym, ap, ap₂, ◌∙◌}
use mathlib.Core.List.{flat_map}
use Rattle.models.specs.Written.{Described}
use Rattle.sorting.specs.declared.which.WhichList.{WhichList}
use Rattle.pages.specs.Numbers.{number_line}
use Rattle.pages.specs.Laws.Putting.{put_as, both_put}
use Rattle.sections.specs.Sections.{count_key, set_line, set_key, list_lines}
use Rattle.sections.specs.Decoded.{decoded}
use Rattle.sections.specs.Laws.Decoded.{decoded_length}
use Rattle.sections.proofs.rows.ListedSets.put_list.Goals as goal

-- the lines of a list with these keys
abbrev lines_with : Described → List ℕ → List ℕ → ℕ → List ℕ → List ℕ
lines_with M count set n sets = number_line count n ++ flat_map (set_line M set) sets

keyed : (M : Described) (which : WhichList) (sets count set : List ℕ) → count ≡ count_key which → set ≡ set_key which
    → lines_with M count set (length sets / 2) (decoded sets) ≡ list_lines M which (decoded sets)
unfolding list_lines
keyed M which sets count set e f =
    ap₂ (λ c s. lines_with M c s (length sets / 2) (decoded sets)) e f
    ∙ ap (λ (n : ℕ). lines_with M (count_key which) (set_key which) n (decoded sets)) (sym (decoded_length sets))

pub returns : goal.returns
returns c =
    put_as _ _ _ _ (both_put _ _ _ _ _ c.number_line.ensures c.put_lines.ensures)
    (keyed _ _ _ _ _ c.keys_of-keys.ensures.count c.keys_of-keys.ensures.set)
