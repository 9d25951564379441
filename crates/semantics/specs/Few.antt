-- How large a model may be. From where its parts stand. This is a definition.
use Rattle.std.specs.Prelude.{◌≤◌}
use Rattle.models.specs.declared.model.Model.{Model}

-- The model is no larger than the arrays: at most 7 letters, 16 rules and 4 properties.
pub record Few (m : Model) : Type 0 where
  pub vars : m.vars ≤ 7
  pub rules : m.rules ≤ 16
  pub properties : m.properties ≤ 4
