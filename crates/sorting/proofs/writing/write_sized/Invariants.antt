-- The loop of `sorting::writing::write_sized`: of the marked sets that came those that have so many rules are written, and the others are left.
use Rattle.std.proofs.Common.{◌^◌}
use Rattle.sets.specs.Lists.{select}
use Rattle.marks.specs.Marks.{marked}
use Rattle.sorting.proofs.Folded.{left}
use Rattle.sorting.proofs.Putting.{Putting}
use Rattle.sorting.proofs.writing.write_sized.Given as goal

abbrev pub invariant-loop-set : goal.invariant-loop-set
invariant-loop-set l = Putting l.size l.initial.lent (select (marked l.sets.table.now) (2 ^ l.sets.rules)) l.yielded (left l.set-iterator) l.lent l.at
