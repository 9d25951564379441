-- The model that a text describes, as the contracts of code name it: by one value that holds the text and the places of its model. Assumes nothing: this is an
-- abbreviation of the definition in `Rattle.models.specs.Written`.
use Rattle.models.specs.Written.{Described, described}
use Rattle.semantics.specs.declared.model_text.ModelText.{ModelText}

-- The model that the text describes.
abbrev pub described_by : ModelText → Described
described_by d = described d.text.now d.model
