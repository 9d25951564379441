-- `bodies::parts::part_lines` answers the refusal of the first line that is refused. Assumes nothing.
use Rattle.std.proofs.Common.{rules, sym}
use Rattle.bodies.proofs.PartLines.{part_refuses, part_kept}
use Rattle.bodies.proofs.parts.part_lines.Goals as goal

pub returns-in_err-line-clause-reads : goal.returns-in_err-line-clause-reads
returns-in_err-line-clause-reads g c =
    let q = part_refuses (g.P.Part.part_at c.args.text.now c.args.vars) _ _ _ c.args.count _ _ c.loop-i-test.true c.loop-i.invariant.read (sym c.in_err-line.ensures.reads) in
    search (rules, q)

pub returns-in_err-line-clause-kept : goal.returns-in_err-line-clause-kept
returns-in_err-line-clause-kept g c =
    part_kept (g.P.Part.part_at c.args.text.now c.args.vars) _ _ _ c.args.count _ _ c.loop-i-test.true c.loop-i.invariant.read (sym c.in_err-line.ensures.reads)
