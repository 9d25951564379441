-- The ranges of what is read behind `init`: a refusal has a number of 1 to 8 and the line of a property or a rule, there are one to four properties, and
-- each line begins within the text. From the definitions of `Body`, `Properties` and `Places`, by the ranges of single lines.
use Rattle.std.specs.Prelude.{ℕ, zero, suc, ◌+◌, ◌≤◌, ◌<◌, ◌≡◌, Bool, List, length, take, drop, Result, Ok, Err, IfOk}
use Rattle.std.proofs.Common.{sym, ap, arith, subst, length-drop}
use Rattle.sets.specs.Laws.Choice.{by_test}
use Rattle.rule_lines.specs.declared.names.RuleParts.{RuleParts}
use Rattle.refusals.specs.declared.refusal.Reason.{Reason}
use Rattle.refusals.specs.Answers.{Answer, Given}
use Rattle.lines.specs.declared.line.Said.{Said}
use Rattle.lines.specs.Lines.{Line, line_of, starts_with, prop_key, count_line, state_line}
use Rattle.rule_lines.specs.RuleLines.{is_taken, rule_line}
use Rattle.lines.specs.Written.{Within}
use Rattle.lines.proofs.Laws.Heard.{Heard, fault, said, says_of, count_heard, state_heard}
use Rattle.rule_lines.proofs.Laws.Heard.{RuleHeard, rule_fault, rule_said, rule_bytes, rule_heard}
use Rattle.bodies.specs.declared.progress.LineStart.{LineStart}
use Rattle.bodies.specs.declared.progress.LineRead.{LineRead}
use Rattle.bodies.specs.declared.progress.Progress.{Progress}
use Rattle.bodies.specs.Places.{Placed, Passes, EndsWithin}
use Rattle.bodies.specs.Properties.{after_line, leading, property_count}
use Rattle.bodies.specs.Body.{last_given, behind_line, following, unless_refused, with_property, propertied, next_property, properties_read, with_rule, ruled, next_rule, rules_read}
use Rattle.bodies.specs.Laws.Answered.{Answered, refused, given, IfGiven, one_given, answered_next, last_of}

-- ---- the places of the lines

ends_within : {text : List ℕ} {p : LineStart} {bytes : ℕ} → Placed text p → Within 1 (length (drop p.at text)) bytes → EndsWithin text p bytes
ends_within {text} {p} {bytes} h w = record { some = w.at_least; within = omega (arith, h.within, w.at_most, length-drop p.at text) }

pub passes : {text : List ℕ} {p : LineStart} {bytes : ℕ} → Placed text p → EndsWithin text p bytes → Passes text p bytes
passes h w = record { within = w.within; counted = h.counted }

-- the place behind a line that ends within the text
pub placed_behind : {text : List ℕ} {p : LineStart} {bytes : ℕ} → Placed text p → EndsWithin text p bytes → Placed text (behind_line p bytes)
unfolding behind_line
placed_behind h w = record { within = w.within; counted = omega (arith, h.counted, w.some) }

pub ruleset places = (passes, placed_behind)

-- a line that is read ends within the text, whatever it says
pub count_ends : (text key : List ℕ) (most : ℕ) (p : LineStart) (said : Result (Said ℕ) Reason) → Placed text p → line_of said ≡ count_line key most (drop p.at text)
    → IfOk said (λ s. EndsWithin text p s.bytes)
count_ends text key most p (Ok s) h q = ends_within h (says_of (count_heard key most (drop p.at text)) (sym q)).within
count_ends text key most p (Err reason) h q = tt

pub state_ends : (text key : List ℕ) (n : ℕ) (p : LineStart) (said : Result (Said ℕ) Reason) → Placed text p → line_of said ≡ state_line key n (drop p.at text)
    → IfOk said (λ s. EndsWithin text p s.bytes)
state_ends text key n p (Ok s) h q = ends_within h (says_of (state_heard key n (drop p.at text)) (sym q)).within
state_ends text key n p (Err reason) h q = tt

pub rule_ends : (text : List ℕ) (n : ℕ) (taken : List ℕ → Bool) (p : LineStart) (said : Result (Said RuleParts) Reason) → Placed text p
    → line_of said ≡ rule_line n taken p.at (drop p.at text) → IfOk said (λ s. EndsWithin text p s.bytes)
rule_ends text n taken p (Ok s) h q = ends_within h (rule_bytes (rule_heard n taken p.at (drop p.at text)) (sym q))
rule_ends text n taken p (Err reason) h q = tt

said_small : {s : List ℕ} {most : ℕ} (p : LineStart) (h : LineRead ℕ) {l : Line ℕ} → Heard s most l → following p l ≡ Given h → h.value ≤ most
unfolding following
said_small p h (fault number w) q = cc
said_small p h (said w) q = omega (arith, w.small, ap (λ x. x.value) (one_given q))

-- what a count line says is at most so much
pub count_small : (text key : List ℕ) (most : ℕ) (p : LineStart) (h : LineRead ℕ) → following p (count_line key most (drop p.at text)) ≡ Given h → h.value ≤ most
count_small text key most p h = said_small p h (count_heard key most (drop p.at text))

-- an expression begins within the text, behind the key of its line
pub state_begins : (text key : List ℕ) (n : ℕ) (p : LineStart) (h : LineRead ℕ) → following p (state_line key n (drop p.at text)) ≡ Given h → h.value ≤ length key
state_begins text key n p h = said_small p h (state_heard key n (drop p.at text))

-- ---- the property lines and the rule lines

-- Of i of these lines, of which the first has the number `first`, one is refused by a number of 1 to 8.
pub record PartRefusal (first i number line : ℕ) : Type 0 where
  pub small : Within 1 8 number
  pub least : first ≤ line
  pub most : line < first + i

-- i of these lines are read, or one of them is refused.
abbrev pub PartRange : ℕ → ℕ → Answer Progress → Type 0
PartRange first i = Answered (PartRefusal first i) (λ r. r.place.line ≡ first + i)

pub refusal_more : {first i k number line : ℕ} → i ≤ k → PartRefusal first i number line → PartRefusal first k number line
refusal_more b h = record { small = h.small; least = h.least; most = omega (arith, h.most) }

property_line : {first i most : ℕ} (j : ℕ) (r : Progress) {s : List ℕ} {l : Line ℕ} → r.place.line ≡ first + i → Heard s most l → PartRange first (suc i) (propertied j r l)
unfolding propertied following unless_refused with_property behind_line
property_line j r h (fault number w) = refused (record { small = w; least = omega arith; most = omega arith })
property_line j r h (said w) = given (omega arith)

pub properties_read_lem : (text : List ℕ) (n : ℕ) (before : Progress) (j : ℕ) → PartRange before.place.line j (properties_read text n before j)
unfolding properties_read next_property
properties_read_lem text n before zero = given (omega arith)
properties_read_lem text n before (suc j) =
    answered_next (properties_read text n before j) (next_property text n j) (properties_read_lem text n before j) (λ _ _. refusal_more (omega arith)) λ r _ h.
    property_line j r h (state_heard prop_key n (drop r.place.at text))

rule_line_lem : {first i : ℕ} (j : ℕ) (r : Progress) {s : List ℕ} {l : Line RuleParts} → r.place.line ≡ first + i → RuleHeard s l → PartRange first (suc i) (ruled j r l)
unfolding ruled following unless_refused with_rule behind_line
rule_line_lem j r h (rule_fault number w) = refused (record { small = w; least = omega arith; most = omega arith })
rule_line_lem j r h (rule_said w) = given (omega arith)

pub rules_read_lem : (text : List ℕ) (n : ℕ) {first : ℕ} (j : ℕ) (before : Progress) → before.place.line ≡ first + j → (i : ℕ) → PartRange first (i + j) (rules_read text n before i)
unfolding rules_read next_rule
rules_read_lem text n j before h zero = given (omega arith)
rules_read_lem text n {first} j before h (suc i) =
    answered_next (rules_read text n before i) (next_rule text n i) (rules_read_lem text n j before h i) (λ _ _. refusal_more (omega arith)) λ r _ k.
    subst (λ m. PartRange first m (next_rule text n i r)) (omega arith)
    (rule_line_lem i r k (rule_heard n (is_taken text (take i r.parts)) r.place.at (drop r.place.at text)))

placed_property : {text : List ℕ} {most : ℕ} (j : ℕ) (r : Progress) {l : Line ℕ} → Placed text r.place → Heard (drop r.place.at text) most l
    → IfGiven (λ q. Placed text q.place) (propertied j r l)
unfolding propertied following unless_refused with_property
placed_property j r h (fault number w) = refused tt
placed_property j r h (said w) = given (placed_behind h (ends_within h w.within))

-- each property line begins within the text, and so does what follows them
pub properties_placed : (text : List ℕ) (n : ℕ) (before : Progress) → Placed text before.place → (j : ℕ) → IfGiven (λ r. Placed text r.place) (properties_read text n before j)
unfolding properties_read next_property
properties_placed text n before h zero = given h
properties_placed text n before h (suc j) =
    answered_next (properties_read text n before j) (next_property text n j) (properties_placed text n before h j) (λ _ _ _. tt) λ r _ k.
    placed_property j r k (state_heard prop_key n (drop r.place.at text))

-- so does the line that is due where they end, also where one was refused
pub properties_left_placed : (text : List ℕ) (n : ℕ) (before : Progress) → Placed text before.place → (j : ℕ) → Placed text (last_given (properties_read text n before) before j).place
properties_left_placed text n before h = last_of (properties_read text n before) before h (properties_placed text n before h)

placed_rule : {text : List ℕ} (i : ℕ) (r : Progress) {l : Line RuleParts} → Placed text r.place → RuleHeard (drop r.place.at text) l
    → IfGiven (λ q. Placed text q.place) (ruled i r l)
unfolding ruled following unless_refused with_rule
placed_rule i r h (rule_fault number w) = refused tt
placed_rule i r h (rule_said w) = given (placed_behind h (ends_within h w))

-- each rule line begins within the text
pub rules_placed : (text : List ℕ) (n : ℕ) (before : Progress) → Placed text before.place → (i : ℕ) → IfGiven (λ r. Placed text r.place) (rules_read text n before i)
unfolding rules_read next_rule
rules_placed text n before h zero = given h
rules_placed text n before h (suc i) =
    answered_next (rules_read text n before i) (next_rule text n i) (rules_placed text n before h i) (λ _ _ _. tt) λ r _ k.
    placed_rule i r k (rule_heard n (is_taken text (take i r.parts)) r.place.at (drop r.place.at text))

pub rules_left_placed : (text : List ℕ) (n : ℕ) (before : Progress) → Placed text before.place → (i : ℕ) → Placed text (last_given (rules_read text n before) before i).place
rules_left_placed text n before h = last_of (rules_read text n before) before h (rules_placed text n before h)

-- ---- how many property lines there can be

leading_le : (most : ℕ) (s : List ℕ) → leading most s ≤ most
unfolding leading
leading_le zero s = omega arith
leading_le (suc most) s = by_test (λ n. n ≤ suc most) (starts_with prop_key s) (λ _. omega (arith, leading_le most (after_line s))) (λ _. omega arith)

pub properties_some : (s : List ℕ) → 1 ≤ property_count s
unfolding property_count
properties_some s = omega arith

pub properties_le : (s : List ℕ) → property_count s ≤ 4
unfolding property_count
properties_le s = omega (arith, leading_le 3 (after_line s))
