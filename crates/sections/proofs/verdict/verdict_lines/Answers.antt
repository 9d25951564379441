-- A turn puts the verdict by the next property; behind the last turn all are put.
use Rattle.std.proofs.Common.{arith}
use Rattle.sections.proofs.Verdicts.{place_fits, few_alone, next_put, all_put}
use Rattle.sections.proofs.verdict.verdict_lines.Goals as goal

pub by_property-requires : goal.by_property-requires
by_property-requires c = place_fits _ _ c.args.read.is_read _ (omega (arith, c.loop-j-test.true))

pub invariant_of-alone : goal.invariant_of-alone
invariant_of-alone c = record { few = few_alone _ _ c.args.read.is_read _ _ c.by_property.ensures }

pub loop-j-preserved : goal.loop-j-preserved
loop-j-preserved c =
    next_put _ _ c.args.read.is_read _ _ _ c.loop-j.invariant c.loop-j-test.true _ c.by_property.ensures _ c.verdict_of.ensures

pub returns : goal.returns
returns c = all_put _ _ c.args.read.is_read _ _ _ c.loop-j.invariant c.loop-j-test.false
