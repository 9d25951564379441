-- `cores::seeds::settle_all`: the first unknown set is a seed, and where there is none all is found. From the laws of `proofs/Finding`.
-- Assumes nothing.
use Rattle.std.proofs.Common.{arith, rules, sym, ◌∙◌}
use Rattle.cores.proofs.Finding.{begun, ending, seed_within, seed, next, all}
use Rattle.cores.proofs.seeds.settle_all.Goals as goal

pub loop-s-init : goal.loop-s-init
loop-s-init c = begun c.set_count-end.ensures c.requires

pub first_marked-requires : goal.first_marked-requires
first_marked-requires c = ending c.loop-s.invariant

pub overflow_cast-s : goal.overflow_cast-s
overflow_cast-s c = omega (arith, seed_within c.loop-s.invariant (sym c.first_marked.ensures ∙ c.in-Some.is))

pub settle-requires : goal.settle-requires
settle-requires c = record { going = c.loop-s.invariant.going; seed = seed c.loop-s.invariant (sym c.first_marked.ensures ∙ c.in-Some.is) }

pub overflow_add-from : goal.overflow_add-from
overflow_add-from c = omega (arith, seed_within c.loop-s.invariant (sym c.first_marked.ensures ∙ c.in-Some.is))

pub loop-s-preserved : goal.loop-s-preserved
loop-s-preserved c = next c.loop-s.invariant (sym c.first_marked.ensures ∙ c.in-Some.is) c.settle.ensures

pub loop-s-smaller : goal.loop-s-smaller
loop-s-smaller c = omega (arith, seed_within c.loop-s.invariant (sym c.first_marked.ensures ∙ c.in-Some.is))

pub returns : goal.returns
returns c = all c.loop-s.invariant (search rules)
