-- The invariant of `bodies::properties::property_count`: so many lines are counted, and of what follows as many as are still wanted are to be.
use Rattle.std.proofs.Common.{◌≡◌, ◌+◌, ◌-◌}
use Rattle.bodies.specs.Properties.{leading, property_count}
use Rattle.bodies.proofs.properties.property_count.Given as goal

abbrev pub invariant-loop-more : goal.invariant-loop-more
invariant-loop-more l = property_count l.s ≡ 1 + l.more + leading (3 - l.more) l.left
