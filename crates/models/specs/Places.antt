-- The places of a model's parts with one property alone. Assumes nothing: these are definitions.
use Rattle.std.specs.Prelude.{ℕ, [], ◌∷◌, get_or}
use Rattle.models.specs.declared.model.Model.{Model}

-- Where the parts of the model with property j alone stand, if those of the model stand at the places m.
unfoldable pub places_by_property : ℕ → Model → Model
places_by_property j m = record {
  vars = m.vars;
  rules = m.rules;
  init = m.init;
  properties = 1;
  props = get_or m.props j 0 ∷ 0 ∷ 0 ∷ 0 ∷ [];
  parts = m.parts;
}
