-- The invariant of `bodies::parts::part_lines`: after i turns i lines are read, and the place is behind them. Assumes nothing.
use Rattle.std.proofs.Common.{◌≡◌}
use Rattle.refusals.specs.Answers.{Given}
use Rattle.bodies.specs.Body.{parts_read}
use Rattle.bodies.specs.Places.{Placed}
use Rattle.bodies.proofs.parts.part_lines.Given as goal

abbrev pub invariant-loop-i : goal.invariant-loop-i
invariant-loop-i g l = record {
  read : parts_read (g.P.Part.part_at l.text l.vars) (l.initial.place, l.initial.parts) l.i ≡ Given (l.place, l.parts);
  placed : Placed l.text l.place;
}
