-- The fold looks at each mark. Assumes nothing.
use Rattle.std.proofs.Common.{◌∙◌, false, ◌||◌, eqb, bit_and, rules}
use Rattle.std.proofs.lemmas.Iterator.{YieldsList-from_slice}
use Rattle.std.proofs.lemmas.Iterator.Consumers.{fold_from_yields_List}
use Rattle.systems.specs.Laws.Least.{fold_any}
use Rattle.verdicts.specs.Marks.{any_with, has_bits}
use Rattle.verdicts.proofs.verdict.any_with.Goals as goal

pub returns : goal.returns
unfolding any_with has_bits
returns c =
    fold_from_yields_List _ (λ found mark. found || eqb (bit_and mark c.args.bits) c.args.bits) false c.fold.result c.fold.ensures.ran
    (YieldsList-from_slice c.args.marks.now (cc)) (λ a x b q k. search rules)
    ∙ fold_any (has_bits c.args.bits) c.args.marks.now
