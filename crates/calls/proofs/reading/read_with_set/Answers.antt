-- `calls::reading::read_with_set` meets its contract: the text's refusal comes first, and then that of the set. From the order of the numbers. Assumes nothing.
use Rattle.std.proofs.Common.{◌^◌, ◌≤◌, refl, arith}
use Rattle.calls.proofs.Laws.Answers.{rules_read_lem, read_by_set}
use Rattle.calls.proofs.reading.read_with_set.Goals as goal

pub returns-then-set_count-set-clause-refused : goal.returns-then-set_count-set-clause-refused
returns-then-set_count-set-clause-refused c =
    let r = c.in_ok-m.ensures.read.read in
    let many : 2 ^ c.in_ok-m.m.model.rules ≤ c.args.set = omega (arith, c.set_count.ensures, c.if-set_count-set.true) in
    rw c.into.ensures (read_by_set c.args.text.now c.args.set r.outcome (rw (rules_read_lem r) at many))

pub returns-clause-read : goal.returns-clause-read
returns-clause-read c =
    record {
      model = c.in_ok-m.ensures.read;
      same = refl;
      below = omega (arith, c.set_count.ensures, c.if-set_count-set.false);
    }
