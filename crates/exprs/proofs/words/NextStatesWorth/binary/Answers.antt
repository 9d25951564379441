-- The words of operators with two operands are those that `Worth` asks for: each arm is its own case of `combined`, at every place of the words.
-- From the laws of sets as numbers. Assumes nothing.
use native.Mathlib.Omega.{arith}
use Rattle.sets.specs.Laws.Gathered.{and_set_of, or_set_of, implies_set_of, alike_set_of}
use Rattle.exprs.proofs.words.NextStatesWorth.binary.Goals as goal

pub returns-in-And : goal.returns-in-And
returns-in-And c = rw c.in-And.is (and_set_of 64 _ _ (omega arith) (omega arith))

pub returns-in-Or : goal.returns-in-Or
returns-in-Or c = rw c.in-Or.is (or_set_of 64 _ _ (omega arith) (omega arith))

pub returns-in-Implies : goal.returns-in-Implies
returns-in-Implies c = rw c.in-Implies.is (implies_set_of 64 _ _ (omega arith) (omega arith))

pub returns-in-Alike : goal.returns-in-Alike
returns-in-Alike c = rw c.in-Alike.is (alike_set_of 64 _ _ (omega arith) (omega arith))
