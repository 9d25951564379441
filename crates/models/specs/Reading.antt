-- The reading of a whole model text, line by line: the first refusal with its line, or where each part of the model stands.
-- From document 01, "The model text" and "When a call is turned away": after the whole text comes number 9. Assumes nothing.
-- The lines behind `init` are read as `Body` of `bodies` says.
use Rattle.std.specs.Prelude.{ℕ, ◌+◌, cond, List, ltb, length, drop, replicate}
use Rattle.refusals.specs.Answers.{Answer, RefusedBy, Given}
use Rattle.lines.specs.Lines.{Line, count_line, state_line, vars_key, rules_key, init_key}
use Rattle.rule_lines.specs.RuleLines.{no_parts}
use Rattle.bodies.specs.declared.progress.LineStart.{LineStart}
use Rattle.bodies.specs.declared.progress.LineRead.{LineRead}
use Rattle.bodies.specs.declared.progress.Progress.{Progress}
use Rattle.bodies.specs.Properties.{property_count}
use Rattle.bodies.specs.Body.{following, unless_refused, none_read, properties_read, rules_read}
use Rattle.models.specs.declared.model.Model.{Model}

-- the first line, whose number is 1, begins the text
abbrev pub text_start : LineStart
text_start = record { at = 0; line = 1 }

-- the parts of an accepted text stand where they were found
abbrev pub model_found : (vars rules init properties : ℕ) → Progress → Model
model_found vars rules init properties r = record { vars = vars; rules = rules; init = init; properties = properties; props = r.props; parts = r.parts }

-- read the line at the place p
unfoldable pub on_line : List ℕ → LineStart → (List ℕ → Line ℕ) → Answer (LineRead ℕ)
unfolding following
on_line text p read = following p (read (drop p.at text))

-- the property lines and then the rule lines, from a place on
unfoldable pub body_read : List ℕ → ℕ → ℕ → LineStart → ℕ → Answer Progress
unfolding none_read unless_refused properties_read rules_read
body_read text vars rules p properties = unless_refused (properties_read text vars (none_read p) properties) λ before. rules_read text vars before rules

-- after the last rule line: number 9 where bytes follow
unfoldable pub finished : List ℕ → ℕ → ℕ → ℕ → ℕ → Answer Progress → Answer Model
finished text vars rules init properties (RefusedBy number line) = RefusedBy number line
finished text vars rules init properties (Given r) =
    cond (ltb r.place.at (length text))
    (RefusedBy 9 r.place.line)
    (Given (model_found vars rules init properties r))

-- what follows the line of `init`, from a place on
unfoldable pub behind_init : List ℕ → ℕ → ℕ → ℕ → LineStart → Answer Model
unfolding property_count body_read finished
behind_init text vars rules init p =
    let properties = property_count (drop p.at text) in
    finished text vars rules init properties (body_read text vars rules p properties)

-- the reading of a text
unfoldable pub read_model : List ℕ → Answer Model
unfolding on_line count_line state_line unless_refused behind_init
read_model text =
    unless_refused (on_line text text_start (count_line vars_key 7)) λ vars.
    unless_refused (on_line text vars.place (count_line rules_key 16)) λ rules.
    unless_refused (on_line text rules.place (state_line init_key vars.value)) λ init.
    behind_init text vars.value rules.value (rules.place.at + init.value) init.place

-- ---- where the parts of an answer's model stand

-- no part stands anywhere
unfoldable pub no_places : Model
no_places = record { vars = 0; rules = 0; init = 0; properties = 0; props = replicate 4 0; parts = replicate 16 no_parts }

-- a refused text has no part anywhere
abbrev pub places_of : Answer Model → Model
places_of (RefusedBy number line) = no_places
places_of (Given m) = m
