-- Once the rules that are left are tried as well, what is found is what the whole order leaves. Assumes nothing.
use Rattle.systems.specs.BySystems.{judge_among}
use Rattle.orders.proofs.Trying.{Tried}
use Rattle.orders.proofs.one_core.drop_all.Given as goal

abbrev pub invariant-loop-rule : goal.invariant-loop-rule
invariant-loop-rule l = Tried (judge_among l.systems) l.order l.fn.first l.rule-index l.found
