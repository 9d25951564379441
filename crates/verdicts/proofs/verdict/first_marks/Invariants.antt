-- The first s marks are made, and the others are as they came. Assumes nothing.
use Rattle.std.proofs.Common.{false}
use Rattle.systems.specs.ByTables.{mark_at}
use Rattle.systems.specs.BySystems.{start_among}
use Rattle.verdicts.specs.Marks.{mark_of}
use Rattle.verdicts.proofs.Reaching.{Passed}
use Rattle.verdicts.proofs.verdict.first_marks.Given as goal

abbrev pub invariant-loop-s : goal.invariant-loop-s
invariant-loop-s l = Passed (λ k. mark_of (start_among l.systems l.fn.set.0 k) false (mark_at l.systems.tables.now.bad k)) l.fn.marks l.marks l.s
