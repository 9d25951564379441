-- The three lines are put one after the other, and the sets are the text's own.
use Rattle.pages.specs.Laws.Putting.{put_as, both_put}
use Rattle.sections.proofs.Called.{kinds_read, kinds_are}
use Rattle.sections.proofs.kinds.kind_lines.Goals as goal

pub invariant_of-must : goal.invariant_of-must
invariant_of-must c = record { few = (kinds_read _ _ c.args.read.is_read _ c.kinds-kinds.ensures).must }

pub invariant_of-may : goal.invariant_of-may
invariant_of-may c = record { few = (kinds_read _ _ c.args.read.is_read _ c.kinds-kinds.ensures).may }

pub invariant_of-irrelevant : goal.invariant_of-irrelevant
invariant_of-irrelevant c = record { few = (kinds_read _ _ c.args.read.is_read _ c.kinds-kinds.ensures).irrelevant }

pub returns : goal.returns
returns c =
    put_as _ _ _ _ (both_put _ _ _ _ _ c.put_line.ensures (both_put _ _ _ _ _ c.put_line-2.ensures c.put_line-3.ensures))
    (kinds_are _ _ c.args.read.is_read _ c.kinds-kinds.ensures)
