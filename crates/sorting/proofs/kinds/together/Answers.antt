-- `sorting::kinds::together`: the fold gathers what the marked sets have together, by number; by size it is the same.
use Rattle.std.proofs.Common.{ℕ, ◌≡◌, refl, sym, ap, ◌∙◌, bit_or, rules}
use Rattle.sets.specs.Kinds.{together}
use Rattle.sets.proofs.Laws.ByNumber.{together_more, together_by_number}
use Rattle.sorting.proofs.Folded.{in_turn, folded}
use Rattle.sorting.proofs.kinds.together.Goals as goal

pub returns : goal.returns
unfolding together
returns c =
    folded _ (λ l (a : ℕ). a ≡ together l) 0 _ c.fold.ensures.ran (in_turn c.by_number.ensures)
    (λ l a x b q j k. let gathered : b ≡ bit_or a x = search rules in (gathered ∙ ap (λ (d : ℕ). bit_or d x) j ∙ sym (together_more l x), search rules))
    refl
    ∙ together_by_number c.args.sets.rules _
