-- `sorting::kinds::common`: the reduction leaves what the marked sets have in common, by number; by size it is the same.
use Rattle.std.proofs.Common.{ap, ◌∙◌, bit_and, rules}
use Rattle.std.specs.Option.{unwrap_or}
use Rattle.sets.proofs.Laws.ByNumber.{common_by_number}
use Rattle.sorting.proofs.Folded.{in_turn, reduced, and_reduced}
use Rattle.sorting.proofs.kinds.common.Goals as goal

pub returns : goal.returns
returns c =
    c.unwrap_or.ensures
    ∙ ap (λ r. unwrap_or r 0) (reduced _ bit_and (in_turn c.by_number.ensures) (λ a x b q k. search rules) _ c.reduce.ensures.ran)
    ∙ and_reduced _ ∙ common_by_number c.args.sets.rules _
