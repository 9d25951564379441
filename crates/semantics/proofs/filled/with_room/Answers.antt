-- What `with_room` lends the closure: the masks that are filled have room for their tables, and both are those of the model.
-- From the laws of filled tables.
use Rattle.std.proofs.Common.{refl, arith}
use Rattle.std.specs.Prelude.{ℕ, ◌≤◌, length, replicate}
use Rattle.std.proofs.lemmas.List.{length-replicate}
use Rattle.semantics.proofs.Laws.Filled.{filled_room}
use Rattle.semantics.proofs.filled.with_room.Goals as goal

-- so many entries, all alike, are room enough for the masks
array_room : {n room : ℕ} → room ≤ n → room ≤ length {A = ℕ} (replicate n 0)
array_room {n} enough = omega (arith, length-replicate {A = ℕ} n 0)

pub invariant_of-run : goal.invariant_of-run
invariant_of-run g c = record {
  has_room = filled_room c.args.m _ (array_room c.requires.room.0) c.fill-tables.ensures.masks_after c.fill-tables.ensures.value;
}

pub returns : goal.returns
returns g c = record {
  systems = _;
  filled = record { before = _; room = array_room c.requires.room.0; masks_are = c.fill-tables.ensures.masks_after; tables_are = c.fill-tables.ensures.value };
  shown = _;
  shows = refl;
  left = _;
  answered = c.run.ensures;
  leaves = refl;
}
