-- The set and the place are those of the definition. Assumes nothing.
use Rattle.logs.proofs.Laws.Log.{both_said}
use Rattle.logs.proofs.blame.blame.Goals as goal

pub returns : goal.returns
returns c = both_said _ _ _ _ _ c.blamed_set.ensures c.breach_place.ensures
