-- `sorting::writing::write_sized`: each marked set that has so many rules is written behind the others. From what the loop keeps.
use Rattle.std.proofs.Common.{◌∙◌, ap, arith}
use Rattle.sorting.proofs.Folded.{left}
use Rattle.sorting.proofs.Putting.{those_selected, started, ended, place_le, room, sum_le, next}
use Rattle.sorting.proofs.writing.write_sized.Goals as goal

pub loop-set-init : goal.loop-set-init
loop-set-init c =
    started _ (ap left c.into_iter-set-iterator.ensures.into_iter_gives ∙ c.by_number-set-items.ensures) (rw those_selected c.requires)

pub slice_bounds-put_sized-count : goal.slice_bounds-put_sized-count
slice_bounds-put_sized-count c = place_le c.loop-set.invariant c.in-Some.ensures.steps

pub put_sized-at-requires : goal.put_sized-at-requires
put_sized-at-requires c = room c.loop-set.invariant c.in-Some.ensures.steps

pub overflow_add-at : goal.overflow_add-at
overflow_add-at c = let l = sum_le c.loop-set.invariant c.in-Some.ensures.steps c.put_sized-at.ensures in omega arith

pub loop-set-preserved : goal.loop-set-preserved
loop-set-preserved c = next c.loop-set.invariant c.in-Some.ensures.steps c.put_sized-at.ensures

pub returns : goal.returns
returns c = rw (← those_selected) (ended c.loop-set.invariant c.in-None.ensures.steps.0)
