-- The bytes of the states below s are put one after the other, and all of them in the end. Assumes nothing.
use Rattle.std.proofs.Common.{ℕ, ◌≡◌, ap, ◌∙◌, List, length, arith}
use lib.ListN.{set}
use Rattle.calls.proofs.ReachedFacts.{mark_byte, marks_put, none_put, put_next, all_put}
use Rattle.calls.proofs.reaching.put_marks.Goals as goal

pub loop-s-init : goal.loop-s-init
loop-s-init c = none_put _ _

pub loop-s-preserved : goal.loop-s-preserved
loop-s-preserved c =
    ap (λ (l : List ℕ). set l c.loop-s.s (mark_byte c.args.marks.now c.loop-s.s)) c.loop-s.invariant
    ∙ put_next c.args.marks.now c.args.bytes.now c.loop-s.s (omega arith)

pub returns : goal.returns
returns c =
    let end : c.loop-s.s ≡ length c.args.bytes.now = omega arith in
    c.loop-s.invariant ∙ ap (marks_put c.args.marks.now c.args.bytes.now) end ∙ all_put c.args.marks.now c.args.bytes.now
