-- The ranges of what is read: of any text N is at most 7, R at most 16, there are at most 4 properties, and a refusal has a number of 1 to 9 and a line
-- of 1 to 24. From the definitions of `Reading`, by the ranges of single lines and of the lines behind `init`.
use Rattle.std.specs.Prelude.{ℕ, ◌+◌, ◌≤◌, ◌≡◌, refl, List, drop}
use Rattle.std.proofs.Common.{ap, arith}
use Rattle.refusals.specs.Answers.{Refused, Answer, RefusedBy, outcome_of}
use Rattle.lines.specs.Lines.{Line, vars_key, rules_key, init_key}
use Rattle.lines.proofs.Laws.Heard.{Heard, fault, said, count_heard, state_heard}
use Rattle.bodies.specs.declared.progress.LineStart.{LineStart}
use Rattle.bodies.specs.declared.progress.LineRead.{LineRead}
use Rattle.bodies.specs.declared.progress.Progress.{Progress}
use Rattle.bodies.specs.Properties.{property_count}
use Rattle.bodies.specs.Body.{behind_line, following, unless_refused, none_read, properties_read, rules_read}
use Rattle.bodies.specs.Laws.Answered.{given_of, refused_of, answered_next}
use Rattle.bodies.specs.Laws.Ranges.{PartRange, refusal_more, properties_read_lem, rules_read_lem, properties_le}
use Rattle.models.specs.declared.model.Model.{Model}
use Rattle.models.specs.Reading.{text_start, on_line, body_read, finished, behind_init, read_model, no_places, places_of}
use Rattle.models.proofs.Laws.Finished.{by_last}

-- ---- the whole text

-- The number and the line of a refused text.
pub record Refusal (number line : ℕ) : Type 0 where
  pub least : 1 ≤ number
  pub most : number ≤ 9
  pub first_line : 1 ≤ line
  pub last_line : line ≤ 24

pub record Ranges (answer : Answer Model) : Type 0 where
  pub vars : (places_of answer).vars ≤ 7
  pub rules : (places_of answer).rules ≤ 16
  pub properties : (places_of answer).properties ≤ 4
  pub refusal : (number line : ℕ) → outcome_of answer ≡ Refused number line → Refusal number line

refused_ranges : (number line : ℕ) → Refusal number line → Ranges (RefusedBy number line)
unfolding no_places
refused_ranges number line h = record {
  vars = omega arith;
  rules = omega arith;
  properties = omega arith;
  refusal = λ n l e.
      let p : number ≡ n = cc in
      let q : line ≡ l = cc in
      rw (← p, ← q) h;
}

-- a line with a number of 1 to 24, and what follows it
following_ranges : (p : LineStart) {s : List ℕ} {most : ℕ} {l : Line ℕ} (next : LineRead ℕ → Answer Model) → 1 ≤ p.line → p.line ≤ 24 → Heard s most l
    → ((h : LineRead ℕ) (bytes : ℕ) → h.place ≡ behind_line p bytes → h.value ≤ most → Ranges (next h)) → Ranges (unless_refused (following p l) next)
unfolding following unless_refused behind_line
following_ranges p next a b (fault number w) f =
    refused_ranges number p.line (record { least = w.at_least; most = omega (arith, w.at_most); first_line = a; last_line = b })
following_ranges p next a b (said {v} {bytes} h) f = f (record { value = v; place = behind_line p bytes }) bytes refl h.small

-- the property lines and the rule lines
body_range : (text : List ℕ) (vars rules : ℕ) (p : LineStart) (properties : ℕ) → PartRange p.line (rules + properties) (body_read text vars rules p properties)
unfolding body_read none_read
body_range text vars rules p properties =
    answered_next (properties_read text vars (none_read p) properties) (λ before. rules_read text vars before rules)
    (properties_read_lem text vars (none_read p) properties)
    (λ _ _. refusal_more (omega arith)) λ before _ h.
    rules_read_lem text vars properties before h rules

finished_ranges : (text : List ℕ) (vars rules init properties first : ℕ) (body : Answer Progress) → vars ≤ 7 → rules ≤ 16 → properties ≤ 4 → 1 ≤ first → first ≤ 4
    → PartRange first (rules + properties) body → Ranges (finished text vars rules init properties body)
finished_ranges text vars rules init properties first body v u w a b h =
    by_last text vars rules init properties body Ranges
    (λ number line e.
    let f = refused_of h e in
    refused_ranges number line
    (record { least = f.small.at_least; most = omega (arith, f.small.at_most); first_line = omega (arith, f.least); last_line = omega (arith, f.most) }))
    (λ r e _.
    let at : r.place.line ≡ first + (rules + properties) = given_of h e in
    refused_ranges 9 r.place.line (record { least = omega arith; most = omega arith; first_line = omega arith; last_line = omega arith }))
    (λ _ _ _. record { vars = v; rules = u; properties = w; refusal = λ n l e. cc })

-- The reading of any text is in these ranges.
pub ranges : (text : List ℕ) → Ranges (read_model text)
unfolding read_model on_line behind_init
ranges text =
    following_ranges text_start _ (omega arith) (omega arith) (count_heard vars_key 7 text) λ vars _ second v.
    let a : vars.place.line ≡ 2 = ap (λ (p : LineStart). p.line) second in
    following_ranges vars.place _ (omega arith) (omega arith) (count_heard rules_key 16 (drop vars.place.at text)) λ rules _ third u.
    let b : rules.place.line ≡ vars.place.line + 1 = ap (λ (p : LineStart). p.line) third in
    following_ranges rules.place _ (omega arith) (omega arith) (state_heard init_key vars.value (drop rules.place.at text)) λ init _ fourth _.
    let c : init.place.line ≡ rules.place.line + 1 = ap (λ (p : LineStart). p.line) fourth in
    let properties : ℕ = property_count (drop init.place.at text) in
    finished_ranges text vars.value rules.value _ properties init.place.line _ v u (properties_le (drop init.place.at text)) (omega arith) (omega arith)
    (body_range text vars.value rules.value init.place properties)
