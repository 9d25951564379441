-- `sorting::writing::count`: as many sets come by number as are listed by size, and no more than there are sets of 16 rules.
use Rattle.std.proofs.Common.{◌∙◌, sym, inl, arith}
use Rattle.std.proofs.lemmas.Iterator.Consumers.{count_from_yields_List}
use Rattle.sets.specs.Laws.Growth.{length_list_of}
use Rattle.sets.specs.Laws.Next.{length_passing}
use Rattle.marks.specs.Marks.{marked}
use Rattle.sorting.proofs.Folded.{in_turn}
use Rattle.sorting.proofs.writing.count.Goals as goal

pub returns : goal.returns
returns c = count_from_yields_List _ _ c.count.ensures.ran (in_turn c.by_number.ensures) ∙ sym (length_list_of c.args.sets.rules _)

pub count-requires-clause-fits : goal.count-requires-clause-fits
count-requires-clause-fits c = let r = c.by_number.result in inl (omega (arith, length_passing (marked r.table.now) r.from r.end, r.ending.few))
