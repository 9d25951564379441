-- The model of a text that was read, as the contracts of code name it. Assumes nothing: this is an abbreviation of the definition in
-- `Rattle.models.specs.Written`.
use Rattle.models.specs.Written.{Described, model_in}
use Rattle.sections.specs.declared.read_text.ReadText.{ReadText}

-- The model that the text tells.
abbrev pub model_told : ReadText → Described
model_told read = model_in read.m.text.now
