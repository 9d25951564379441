-- The loop of `sorting::writing::write_sorted`: the sets that have fewer than `size` rules are written, and no marked set has a size that is not noted.
use Rattle.std.proofs.Common.{ℕ, suc, ◌^◌, List}
use Rattle.sets.specs.Lists.{select, sized}
use Rattle.marks.specs.Marks.{marked}
use Rattle.sorting.specs.Written.{Noted}
use Rattle.sorting.proofs.Written.{Writing}
use Rattle.sorting.proofs.writing.write_sorted.Given as goal

-- the sets of R rules that a table marks and that have so many rules
abbrev pub of : List ℕ → ℕ → ℕ → List ℕ
of table R size = select (sized (marked table) size) (2 ^ R)

pub record Sorting (table : List ℕ) (R noted : ℕ) (before now : List ℕ) (at size : ℕ) : Type 0 where
  pub sizes : Noted (marked table) (2 ^ R) noted
  pub writing : Writing (of table R) (suc R) before now at size

abbrev pub invariant-loop-size : goal.invariant-loop-size
invariant-loop-size l = Sorting l.sets.table.now l.sets.rules l.noted l.initial.lent l.lent l.at l.size
