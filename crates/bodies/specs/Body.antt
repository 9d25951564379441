-- The reading of the lines behind `init`, the body of a model text, line by line: first the property lines, then the rule lines; the number of the first
-- that is refused with its line, or where each property and each rule stands. From document 01, "The model text" and "When a call is turned away".
-- Assumes nothing: these are definitions.
use Rattle.std.specs.Prelude.{ℕ, zero, suc, ◌+◌, List, take, drop, set, replicate, Result, Ok, Err}
use Rattle.rule_lines.specs.declared.names.RuleParts.{RuleParts}
use Rattle.refusals.specs.declared.refusal.Refusal.{Refusal}
use Rattle.refusals.specs.Numbers.{number_of}
use Rattle.refusals.specs.Answers.{Answer, RefusedBy, Given}
use Rattle.lines.specs.Lines.{Line, Fault, Read, state_line, prop_key}
use Rattle.rule_lines.specs.RuleLines.{no_parts, rule_line, is_taken}
use Rattle.bodies.specs.declared.progress.LineStart.{LineStart}
use Rattle.bodies.specs.declared.progress.LineRead.{LineRead}
use Rattle.bodies.specs.declared.progress.Progress.{Progress}

-- ---- the lines one after the other

-- the place behind a line of so many bytes
unfoldable pub behind_line : LineStart → ℕ → LineStart
behind_line p bytes = record { at = p.at + bytes; line = p.line + 1 }

-- what a line at the place p says, and the place behind it; a line that is refused refuses the text
unfoldable pub following : {A : Type 0} → LineStart → Line A → Answer (LineRead A)
unfolding behind_line
following p (Fault number) = RefusedBy number p.line
following p (Read value bytes) = Given (record { value = value; place = behind_line p bytes })

-- what the next lines give, unless an earlier one was refused
unfoldable pub unless_refused : {A B : Type 0} → Answer A → (A → Answer B) → Answer B
unless_refused (RefusedBy number line) next = RefusedBy number line
unless_refused (Given a) next = next a

-- what a step leaves, where it is not refused
abbrev pub left : {A B : Type 0} → Result B Refusal → A → Answer A
left (Ok done) a = Given a
left (Err refusal) a = RefusedBy (number_of refusal.reason) refusal.line

-- ---- the lines of one kind, where `next` tells what the line at a place gives behind the earlier parts

-- part i, put into the list behind the earlier ones, with the place behind its line
unfoldable pub part_put : {A : Type 0} → (LineStart → List A → Answer (LineRead A)) → ℕ → LineStart × List A → Answer (LineStart × List A)
unfolding unless_refused
part_put next i r = unless_refused (next r.0 (take i r.1)) λ h. Given (h.place, set r.1 i h.value)

-- the first so many parts, from a place on
unfoldable pub parts_read : {A : Type 0} → (LineStart → List A → Answer (LineRead A)) → LineStart × List A → ℕ → Answer (LineStart × List A)
unfolding unless_refused part_put
parts_read next r zero = Given r
parts_read next r (suc i) = unless_refused (parts_read next r i) (part_put next i)

-- what an answer gives, or what there was before it where it gives nothing
unfoldable pub given_or : {A : Type 0} → Answer A → A → A
given_or (RefusedBy number line) before = before
given_or (Given a) before = a

-- what there is after so many steps: what the last of them gave that was not refused, or r
unfoldable pub last_given : {A : Type 0} → (ℕ → Answer A) → A → ℕ → A
unfolding given_or
last_given so_far r zero = r
last_given so_far r (suc i) = given_or (so_far (suc i)) (last_given so_far r i)

-- ---- the property lines

-- before the first property line
unfoldable pub none_read : LineStart → Progress
none_read p = record { place = p; props = replicate 4 0; parts = replicate 16 no_parts }

-- what the line of a property says, its place in the text
unfoldable pub property_part : List ℕ → ℕ → LineStart → List ℕ → Answer (LineRead ℕ)
unfolding unless_refused following state_line
property_part text n p earlier = unless_refused (following p (state_line prop_key n (drop p.at text))) λ h. Given (record { value = p.at + h.value; place = h.place })

-- with property j, which stands at this place, before a line at the place p
unfoldable pub with_property : Progress → ℕ → ℕ → LineStart → Progress
with_property r j at p = record { place = p; props = set r.props j at; parts = r.parts }

-- what a line gives for property j
unfoldable pub propertied : ℕ → Progress → Line ℕ → Answer Progress
unfolding unless_refused following with_property
propertied j r l = unless_refused (following r.place l) λ h. Given (with_property r j (r.place.at + h.value) h.place)

-- the line of property j
unfoldable pub next_property : List ℕ → ℕ → ℕ → Progress → Answer Progress
unfolding propertied state_line
next_property text n j r = propertied j r (state_line prop_key n (drop r.place.at text))

-- the first so many property lines, where none is read before them
unfoldable pub properties_read : List ℕ → ℕ → Progress → ℕ → Answer Progress
unfolding unless_refused next_property
properties_read text n r zero = Given r
properties_read text n r (suc j) = unless_refused (properties_read text n r j) (next_property text n j)

-- ---- the rule lines

-- what the line of a rule says, where its parts stand
unfoldable pub rule_part : List ℕ → ℕ → LineStart → List RuleParts → Answer (LineRead RuleParts)
unfolding following rule_line is_taken
rule_part text n p earlier = following p (rule_line n (is_taken text earlier) p.at (drop p.at text))

-- with rule i, whose parts stand at these places, before a line at the place p
unfoldable pub with_rule : Progress → ℕ → RuleParts → LineStart → Progress
with_rule r i found p = record { place = p; props = r.props; parts = set r.parts i found }

-- what a line gives for rule i
unfoldable pub ruled : ℕ → Progress → Line RuleParts → Answer Progress
unfolding unless_refused following with_rule
ruled i r l = unless_refused (following r.place l) λ h. Given (with_rule r i h.value h.place)

-- the line of rule i
unfoldable pub next_rule : List ℕ → ℕ → ℕ → Progress → Answer Progress
unfolding ruled rule_line is_taken
next_rule text n i r =
    let at = r.place.at in
    ruled i r (rule_line n (is_taken text (take i r.parts)) at (drop at text))

-- the first so many rule lines, behind the property lines
unfoldable pub rules_read : List ℕ → ℕ → Progress → ℕ → Answer Progress
unfolding unless_refused next_rule
rules_read text n r zero = Given r
rules_read text n r (suc i) = unless_refused (rules_read text n r i) (next_rule text n i)
