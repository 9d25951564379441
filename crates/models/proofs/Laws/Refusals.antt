-- The reading of any text has the right outcome: where it refuses the text, the number and the line are the first that fit, and where it accepts the
-- text none fits. From the laws of single lines, along the lines of the text.
use Prim.Native.Nat.{ℕ, zero, suc, ◌+◌, ◌-◌, ◌≤◌, ◌<◌}
use Rattle.std.specs.Prelude.{◌≡◌, ◌≢◌, true, ◌&&◌, get_or, take}
use Rattle.std.proofs.Math.Path.{refl, ap, subst}
use Rattle.std.proofs.Common.{sym, ap₂, ◌∙◌, inl, inr, ⊎_elim, add-one, drop_of_length-le, length-drop, drop-cons, drop-drop}
use Rattle.std.proofs.Math.Bool.{Bool}
use mathlib.Core.List.{List, [], ◌∷◌, ◌++◌, append_assoc, flat_map}
use native.Mathlib.Omega.{arith}
use Rattle.std.proofs.Math.Decide.{dec_lt}
use Rattle.std.proofs.Math.ListN.{length, drop}
use Rattle.lines.specs.declared.classes.Class.TheVariants.{InLine}
use Rattle.rule_lines.specs.declared.names.RuleParts.{RuleParts}
use Rattle.refusals.specs.Answers.{Outcome, Accepted, Refused, Answer, RefusedBy, Given, outcome_of}
use Rattle.lines.specs.Lines.{Line, vars_key, rules_key, init_key, prop_key, rule_key, line_length, all}
use Rattle.rule_lines.specs.RuleLines.{no_parts, name_of, is_taken}
use Rattle.lines.specs.Written.{Rule, LegalRule, written_parts, written_rule}
use Rattle.lines.specs.Laws.Bytes.{all_append}
use Rattle.lines.proofs.Laws.Lines.{line_append}
use Rattle.rule_lines.proofs.Laws.RuleLines.{rule_in_line, rule_key_in_line}
use Rattle.bodies.specs.declared.progress.LineStart.{LineStart}
use Rattle.bodies.specs.declared.progress.LineRead.{LineRead}
use Rattle.bodies.specs.declared.progress.Progress.{Progress}
use Rattle.bodies.specs.Properties.{after_line, property_count}
use Rattle.bodies.specs.Body.{behind_line, following, unless_refused, none_read, with_property, propertied, next_property, properties_read, with_rule, ruled, next_rule, rules_read}
use Rattle.bodies.specs.Laws.Answered.{given_of}
use Rattle.bodies.specs.Laws.Lines.{line_dropped, line_seam}
use Rattle.models.specs.declared.model.Model.{Model}
use Rattle.models.specs.Reading.{text_start, on_line, body_read, finished, behind_init, read_model}
use Rattle.models.specs.Written.{rule_at}
use Rattle.models.specs.Refusals.{after_lines, CountLine, vars_line, rules_line, first_rule_line, StateLine, init_line, prop_line, GivesCount, IsN, IsR, HasName, FitsAt, bytes_follow, First}
use Rattle.models.specs.Laws.Lines.{lines_more, lines_add}
use Rattle.models.proofs.Laws.Finished.{last_numbers}
use Rattle.models.specs.Laws.Rules.{taken_back, taken_there, PlaceArrays, Ruled, rules_back}
use Rattle.models.specs.Laws.Properties.{properties_room}
use Rattle.models.specs.Laws.Grounds.{in_line_unbroken}
use Rattle.models.specs.Laws.Fitting.{one_name, fits_least, fits_behind, LineJudged, line_refused, line_passed, count_judged, state_judged, RuleJudged, rule_refused, rule_passed, TellsNames, rule_judged}

-- ---- what fits first

-- no number fits on a line before line k
Clear : List ℕ → ℕ → Type 0
Clear text k = (m l : ℕ) → l < k → ¬ FitsAt text m l

clear_start : (text : List ℕ) → Clear text 1
unfolding Clear
clear_start text m l h f = omega (arith, fits_least f)

clear_more : (text : List ℕ) (k : ℕ) → Clear text k → ((m : ℕ) → ¬ FitsAt text m k) → Clear text (k + 1)
unfolding Clear
clear_more text k clear none m l h f = go (dec_lt l k)
  where
    go : Dec (l < k) → ⊥
    go (yes b) = clear m l b f
    go (no b) = let e : l ≡ k = omega arith in none m (subst (FitsAt text m) e f)

first_on : (text : List ℕ) (number k : ℕ) → Clear text k → FitsAt text number k → ((m : ℕ) → m < number → ¬ FitsAt text m k) → First text number k
unfolding Clear
first_on text number k clear fits least = record {
  fits = fits;
  none = λ m l b f. ⊎_elim (λ h. clear m l h f) (λ h. least m h.1 (subst (FitsAt text m) h.0 f)) b;
}

-- two numbers that both come first are the same, at the same line
pub one_first : {text : List ℕ} {number line number' line' : ℕ} → First text number line → First text number' line' → (number ≡ number') × (line ≡ line')
one_first {text} {number} {line} {number'} {line'} f g = go (dec_lt line line') (dec_lt line' line) (dec_lt number number') (dec_lt number' number)
  where
    go : Dec (line < line') → Dec (line' < line) → Dec (number < number') → Dec (number' < number) → (number ≡ number') × (line ≡ line')
    go (yes h) _ _ _ = absurd (g.none number line (inl h) f.fits)
    go (no h) (yes k) _ _ = absurd (f.none number' line' (inl k) g.fits)
    go (no h) (no k) (yes a) _ = absurd (g.none number line (inr (omega arith, a)) f.fits)
    go (no h) (no k) (no a) (yes b) = absurd (f.none number' line' (inr (omega arith, b)) g.fits)
    go (no h) (no k) (no a) (no b) = omega arith

-- ---- the lines up to `init`

-- The line of this number begins at the place.
record Stands (text : List ℕ) (p : LineStart) : Type 0 where
  least : 1 ≤ p.line
  begins : after_lines (p.line - 1) text ≡ drop p.at text

stands_next : {text : List ℕ} {p : LineStart} → Stands text p → Stands text (behind_line p (line_length (drop p.at text) + 1))
unfolding behind_line
stands_next {text} {p} st =
    let s : List ℕ = drop p.at text in
    let next : p.line + 1 - 1 ≡ suc (p.line - 1) = omega (arith, st.least) in
    record {
      least = omega arith;
      begins =
          ap (λ n. after_lines n text) next
          ∙ lines_more (p.line - 1) text
          ∙ ap after_line st.begins
          ∙ line_dropped s
          ∙ drop-drop (suc (line_length s)) p.at text
          ∙ ap (λ n. drop (p.at + n) text) (sym (add-one (line_length s)));
    }

-- The outcome of a text is the right one.
pub data RightOutcome (text : List ℕ) : Outcome → Type 0 where
  none_fits : ((number line : ℕ) → ¬ FitsAt text number line) → RightOutcome text Accepted
  first_fits : {number line : ℕ} → First text number line → RightOutcome text (Refused number line)

following_right : (text : List ℕ) (p : LineStart) (Says : ℕ → Type 0) (next : LineRead ℕ → Answer Model) {l : Line ℕ} → Stands text p → Clear text p.line
    → LineJudged text p.line (drop p.at text) Says l
    → ((h : LineRead ℕ) (bytes : ℕ) → h.place ≡ behind_line p bytes → Says h.value → Stands text h.place → Clear text h.place.line → RightOutcome text (outcome_of (next h)))
    → RightOutcome text (outcome_of (unless_refused (following p l) next))
unfolding following unless_refused behind_line
following_right text p Says next st clear (line_refused {number} f least some) go = first_fits (first_on text number p.line clear f least)
following_right text p Says next st clear (line_passed {v} s none) go =
    let bytes : ℕ = line_length (drop p.at text) + 1 in
    go (record { value = v; place = behind_line p bytes }) bytes refl s (stands_next st) (clear_more text p.line clear none)

-- ---- the names of the rule lines

-- the line of a legal rule, with its byte 10
rule_line_is : (n : ℕ) → n ≤ 7 → (r : Rule) → LegalRule n r → (rest : List ℕ)
    → (written_rule r ++ rest ≡ (rule_key ++ (r.name ++ 58 ∷ written_parts r)) ++ 10 ∷ rest)
    × (all InLine (rule_key ++ (r.name ++ 58 ∷ written_parts r)) ≡ true)
unfolding written_rule
rule_line_is n h r l rest =
    let v : List ℕ = r.name ++ 58 ∷ written_parts r in
    (line_append rule_key v rest ∙ sym (append_assoc rule_key v (10 ∷ rest)), all_append InLine rule_key v ∙ ap₂ ◌&&◌ rule_key_in_line (rule_in_line n r h l))

after_rules : (n : ℕ) → n ≤ 7 → (rs : List Rule) → ((j : ℕ) → j < length rs → LegalRule n (rule_at rs j)) → (rest : List ℕ) (j : ℕ) → j ≤ length rs
    → after_lines j (flat_map written_rule rs ++ rest) ≡ flat_map written_rule (drop j rs) ++ rest
unfolding after_lines flat_map
after_rules n h [] l rest zero b = refl
after_rules n h [] l rest (suc j) b = absurd (omega arith)
after_rules n h (r ∷ rs) l rest zero b = refl
after_rules n h (r ∷ rs) l rest (suc j) b =
    let more : List ℕ = flat_map written_rule rs ++ rest in
    let w = rule_line_is n h r (l 0 (omega arith)) more in
    ap (λ x. after_lines j (after_line x)) (append_assoc (written_rule r) (flat_map written_rule rs) rest ∙ w.0)
    ∙ ap (after_lines j) (line_seam (rule_key ++ (r.name ++ 58 ∷ written_parts r)) more w.1)
    ∙ after_rules n h rs (λ i k. l (suc i) (omega arith)) rest j (omega arith)

-- ---- the lines behind `init`

-- After the lines before line k: no number fits so far, and line k begins at the place; or the first number that fits is found.
data PartsJudged (text : List ℕ) (k : ℕ) : Answer Progress → Type 0 where
  parts_passed : {r : Progress} → Stands text r.place → r.place.line ≡ k → Clear text k → PartsJudged text k (Given r)
  parts_refused : {number line : ℕ} → First text number line → PartsJudged text k (RefusedBy number line)

-- one line more, unless an earlier one was refused
judged_more : {text : List ℕ} {k : ℕ} (k' : ℕ) (answer : Answer Progress) (next : Progress → Answer Progress) → PartsJudged text k answer
    → ((r : Progress) → answer ≡ Given r → Stands text r.place → r.place.line ≡ k → Clear text r.place.line → PartsJudged text k' (next r))
    → PartsJudged text k' (unless_refused answer next)
unfolding unless_refused
judged_more {text} k' (Given r) next (parts_passed st l c) f = f r refl st l (subst (Clear text) (sym l) c)
judged_more k' (RefusedBy number line) next (parts_refused g) f = parts_refused g

module _ (text : List ℕ) (k : ℕ) (r : Progress) (st : Stands text r.place) (clear : Clear text r.place.line) (next : r.place.line + 1 ≡ k) where
  clear_behind : ((m : ℕ) → ¬ FitsAt text m r.place.line) → Clear text k
  clear_behind none = subst (Clear text) next (clear_more text r.place.line clear none)

  with_property_line : (j : ℕ) {l : Line ℕ} → LineJudged text r.place.line (drop r.place.at text) (λ _. Unit) l → PartsJudged text k (propertied j r l)
  unfolding propertied following unless_refused with_property
  with_property_line j (line_refused {number} f least some) = parts_refused (first_on text number r.place.line clear f least)
  with_property_line j (line_passed s none) = parts_passed (stands_next st) next (clear_behind none)

  with_rule_line : (i : ℕ) {l : Line RuleParts} → RuleJudged text r.place.line (drop r.place.at text) l → PartsJudged text k (ruled i r l)
  unfolding ruled following unless_refused with_rule
  with_rule_line i (rule_refused {number} f least some) = parts_refused (first_on text number r.place.line clear f least)
  with_rule_line i (rule_passed none) = parts_passed (stands_next st) next (clear_behind none)

-- ---- the property lines

properties_judged : (text : List ℕ) (n : ℕ) → IsN text n → (p : LineStart) → Stands text p → p.line ≡ 4 → Clear text 4
    → (j : ℕ) → 4 + j ≤ first_rule_line text → PartsJudged text (4 + j) (properties_read text n (none_read p) j)
unfolding properties_read next_property none_read
properties_judged text n isN p st four clear zero b = parts_passed st four clear
properties_judged text n isN p st four clear (suc j) b =
    judged_more (4 + suc j) (properties_read text n (none_read p) j) (next_property text n j) (properties_judged text n isN p st four clear j (omega arith)) λ r _ s l c.
    with_property_line text (4 + suc j) r s c (omega arith) j
    (state_judged text r.place.line (drop r.place.at text) s.begins n isN prop_key (prop_line (omega arith) (omega arith)))

-- ---- the rule lines

module _ (text : List ℕ) (n R : ℕ) (isN : IsN text n) (isR : IsR text R) (before : Progress) (room : PlaceArrays before) where
  few : n ≤ 7
  few = isN.range.at_most

  -- the rule lines begin where the property lines end
  module _ (st : Stands text before.place) (first : before.place.line ≡ first_rule_line text) where
    -- each rule line that was read has the name that is found for it
    named_line : (i : ℕ) (r : Progress) → i ≤ R → Ruled text n before i r → (j : ℕ) → j < i
        → (e : List ℕ) × HasName text (first_rule_line text + j) (name_of text (get_or r.parts j no_parts)) e
    unfolding flat_map
    named_line i r b u j h =
        let rs : List Rule = u.rules in
        let k : j < length rs = omega (arith, u.count) in
        let rule : Rule = rule_at rs j in
        let others : List ℕ = flat_map written_rule (drop (suc j) rs) in
        let rest : List ℕ = drop r.place.at text in
        let w = rule_line_is n few rule (u.legal.each j k) (others ++ rest) in
        let lines : first_rule_line text + j - 1 ≡ before.place.line - 1 + j = omega (arith, st.least) in (
          written_parts rule,
          record {
            rule = record { R = R; count = isR; least = omega arith; most = omega arith };
            proper = rw (u.upto.located j k).name_is (record { size = (u.legal.each j k).name_length; bytes = (u.legal.each j k).name_bytes });
            value = rw (u.upto.located j k).name_is (record {
              rest = others ++ rest;
              stands =
                  ap (λ x. after_lines x text) lines
                  ∙ lines_add (before.place.line - 1) j text
                  ∙ ap (after_lines j) (st.begins ∙ u.upto.lines)
                  ∙ after_rules n few rs u.legal.each rest j (omega arith)
                  ∙ ap (λ x. flat_map written_rule x ++ rest) (drop-cons rs j _ k)
                  ∙ append_assoc (written_rule rule) others rest
                  ∙ w.0;
              unbroken = in_line_unbroken _ w.1;
            });
          },
        )

    names_told : (i : ℕ) (r : Progress) → i ≤ R → Ruled text n before i r → TellsNames text (first_rule_line text + i) (is_taken text (take i r.parts))
    names_told i r b u = record {
      taken_there = λ name t.
          let w = taken_there text name r.parts i t in
          let m = named_line i r b u w.0 w.1 in
          let k : ℕ = first_rule_line text + w.0 in
          (k, omega (arith, w.1), (m.0, subst (λ x. HasName text k x m.0) w.2 m.1));
      free_there = λ name t j d h a.
          let l : first_rule_line text ≤ j = a.rule.least in
          let k : j - first_rule_line text < i = omega arith in
          let e : j ≡ first_rule_line text + (j - first_rule_line text) = omega arith in
          taken_back text name r.parts i t (j - first_rule_line text) k (omega (arith, k, u.upto.room.parts, isR.range.at_most))
          (one_name (named_line i r b u (j - first_rule_line text) k).1 (subst (λ x. HasName text x name d) e a));
    }

    rules_judged : Clear text (first_rule_line text) → (i : ℕ) → i ≤ R → PartsJudged text (first_rule_line text + i) (rules_read text n before i)
    unfolding rules_read next_rule
    rules_judged clear zero b = parts_passed st (omega arith) (subst (Clear text) (omega arith) clear)
    rules_judged clear (suc i) b =
        judged_more (first_rule_line text + suc i) (rules_read text n before i) (next_rule text n i) (rules_judged clear i (omega arith)) λ r e s l c.
        let u = rules_back text n before room few i (omega (arith, isR.range.at_most)) r e in
        let taken : List ℕ → Bool = is_taken text (take i r.parts) in
        with_rule_line text (first_rule_line text + suc i) r s c (omega arith) i
        (rule_judged text r.place.line (drop r.place.at text) s.begins n isN (record { R = R; count = isR; least = omega arith; most = omega arith }) taken
        (subst (λ k. TellsNames text k taken) (sym l) (names_told i r (omega arith) u)) r.place.at)

-- ---- both kinds of lines

-- the first rule line follows as many lines as are counted where the first property line begins
first_rule : (text : List ℕ) (p : LineStart) → Stands text p → p.line ≡ 4 → 4 + property_count (drop p.at text) ≡ first_rule_line text
unfolding first_rule_line
first_rule text p st four = ap (λ s. 4 + property_count s) (sym st.begins ∙ ap (λ k. after_lines (k - 1) text) four)

lines_judged : (text : List ℕ) (n R : ℕ) → IsN text n → IsR text R → (p : LineStart) → Stands text p → p.line ≡ 4 → Clear text 4
    → PartsJudged text (first_rule_line text + R) (body_read text n R p (property_count (drop p.at text)))
unfolding body_read
lines_judged text n R isN isR p st four clear =
    let properties : ℕ = property_count (drop p.at text) in
    let first : 4 + properties ≡ first_rule_line text = first_rule text p st four in
    judged_more (first_rule_line text + R) (properties_read text n (none_read p) properties) (λ before. rules_read text n before R)
    (properties_judged text n isN p st four clear properties (omega arith)) λ before e s l c.
    rules_judged text n R isN isR before (given_of (properties_room text n p properties) e) s (l ∙ first) (subst (Clear text) (l ∙ first) c) R (omega arith)

-- ---- the whole text

finished_right : (text : List ℕ) (vars R init properties : ℕ) {body : Answer Progress} → IsR text R → PartsJudged text (first_rule_line text + R) body
    → RightOutcome text (outcome_of (finished text vars R init properties body))
unfolding Clear
finished_right text vars R init properties isR (parts_refused {number} {line} f) =
    subst (λ x. RightOutcome text (outcome_of x)) (sym ((last_numbers text vars R init properties _).by_rule number line refl)) (first_fits f)
finished_right text vars R init properties isR (parts_passed {r} st l clear) = ends (dec_lt r.place.at (length text))
  where
    rest : after_lines (first_rule_line text + R - 1) text ≡ drop r.place.at text
    rest = ap (λ k. after_lines (k - 1) text) (sym l) ∙ st.begins

    none : after_lines (first_rule_line text + R - 1) text ≡ [] → (m k : ℕ) → FitsAt text m k → Dec (k < first_rule_line text + R) → ⊥
    none empty m k f (yes b) = clear m k (omega arith) f
    none empty m k f (no b) = (fits_behind isR f (omega arith)).1 empty

    ends : Dec (r.place.at < length text) → RightOutcome text (outcome_of (finished text vars R init properties (Given r)))
    ends (yes b) =
        let some : after_lines (first_rule_line text + R - 1) text ≢ [] = λ q. omega (arith, length-drop r.place.at text, ap length (sym rest ∙ q)) in
        subst (λ x. RightOutcome text (outcome_of x)) (sym ((last_numbers text vars R init properties (Given r)).by_nine r refl b))
        (first_fits
        (first_on text 9 r.place.line (λ m k h. clear m k (omega arith)) (subst (FitsAt text 9) (sym l) (bytes_follow isR some))
        (λ m h f. omega (arith, (fits_behind isR f (omega arith)).0))))
    ends (no b) =
        let empty : after_lines (first_rule_line text + R - 1) text ≡ [] = rest ∙ drop_of_length-le text (omega arith) in
        subst (λ x. RightOutcome text (outcome_of x)) (sym ((last_numbers text vars R init properties (Given r)).by_none r refl (omega arith)))
        (none_fits (λ m k f. none empty m k f (dec_lt k (first_rule_line text + R))))

-- the reading of any text has the right outcome
pub right_outcome : (text : List ℕ) → RightOutcome text (outcome_of (read_model text))
unfolding read_model on_line behind_init after_lines
right_outcome text =
    let s₁ : Stands text text_start = record { least = omega arith; begins = refl } in
    following_right text text_start _ _ s₁ (clear_start text) (count_judged text 1 text refl vars_key 7 vars_line) λ vars _ second isN s₂ c₂.
    let two : vars.place.line ≡ 2 = ap (λ (p : LineStart). p.line) second in
    following_right text vars.place _ _ s₂ c₂
    (count_judged text vars.place.line (drop vars.place.at text) s₂.begins rules_key 16 (subst (λ k. CountLine k rules_key 16) (sym two) rules_line)) λ rules _ third isR s₃ c₃.
    let three : rules.place.line ≡ 3 = ap (λ (p : LineStart). p.line) third ∙ ap (λ n. n + 1) two in
    following_right text rules.place _ _ s₃ c₃
    (state_judged text rules.place.line (drop rules.place.at text) s₃.begins vars.value isN init_key (subst (λ k. StateLine text k init_key) (sym three) init_line)) λ init _ fourth _ s₄ c₄.
    let four : init.place.line ≡ 4 = ap (λ (p : LineStart). p.line) fourth ∙ ap (λ n. n + 1) three in
    finished_right text vars.value rules.value _ _ (subst (λ k. GivesCount text k rules_key 16 rules.value) two isR)
    (lines_judged text vars.value rules.value isN (subst (λ k. GivesCount text k rules_key 16 rules.value) two isR) init.place s₄ four (subst (Clear text) four c₄))
