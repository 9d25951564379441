-- The rules that an iterator over a set has left. Assumes nothing: this is a definition.
use Rattle.std.specs.Prelude.{ℕ, List}
use Rattle.sets.specs.Bit.{has}
use Rattle.sets.specs.Lists.{select}
use Rattle.sections.specs.declared.rules.Rules.{Rules}

-- in the model's order; no model has more than 16 rules
unfoldable pub rules_left : Rules → List ℕ
rules_left s = select (has s.0.0) 16
