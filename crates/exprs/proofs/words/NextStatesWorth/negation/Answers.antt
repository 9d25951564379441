-- The word of a negation is the one that `Worth` asks for, at every place. From the laws of sets as numbers. Assumes nothing.
use native.Mathlib.Omega.{arith}
use Rattle.sets.specs.Laws.Gathered.{not_set_of}
use Rattle.exprs.proofs.words.NextStatesWorth.negation.Goals as goal

pub returns : goal.returns
returns c = not_set_of 64 _ (omega arith)
