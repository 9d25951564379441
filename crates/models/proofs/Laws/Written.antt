-- The reading is the right one: the written form of a legal model is accepted, with each part of the model at the place that the reading gives
-- for it, and an accepted text is the written form of a legal model. From the laws of the lines, along the lines of the text.
use Rattle.std.specs.Prelude.{ℕ, suc, ◌+◌, ◌*◌, ◌≤◌, ◌<◌, ◌≡◌, refl, Bool, true, false, Some, None, length, get_or, drop}
use Rattle.std.proofs.Common.{sym, ap, ◌∙◌, subst, arith, length-append, drop_of_length-le}
use mathlib.Core.List.{List, [], ◌∷◌, ◌++◌, append-nil, append_assoc, flat_map}
use Rattle.std.proofs.Math.Option.{Option, none, some}
use Rattle.sets.specs.Laws.Tabulated.{length_tabulate, get_d_tabulate, tabulated}
use Rattle.exprs.specs.Expr.{Expr, written, size}
use Rattle.exprs.specs.Reading.{read_expr}
use Rattle.exprs.specs.Laws.Reading.{reads_what_is_written}
use Rattle.refusals.specs.Answers.{Accepted, Answer, Given, outcome_of}
use Rattle.lines.specs.Decimal.{decimal}
use Rattle.lines.specs.Lines.{Line, Fault, Read, vars_key, rules_key, init_key, prop_key, rule_key, starts_with, count_line, state_line}
use Rattle.rule_lines.specs.RuleLines.{StartPlace, no_parts, name_of}
use Rattle.lines.specs.Written.{Rule, Within, LegalExpr, LegalStart, LegalRule, line, written_start, written_parts, written_rule}
use Rattle.lines.specs.Laws.Decimal.{decimal_short}
use Rattle.lines.proofs.Laws.Expressions.{letters_more}
use Rattle.lines.proofs.Laws.Lines.{Reads, vars_reads, rules_reads, init_reads, line_append, length_line}
use Rattle.bodies.specs.declared.progress.LineStart.{LineStart}
use Rattle.bodies.specs.declared.progress.LineRead.{LineRead}
use Rattle.bodies.specs.declared.progress.Progress.{Progress}
use Rattle.bodies.specs.Properties.{property_count}
use Rattle.bodies.specs.Body.{behind_line, following, unless_refused, none_read, properties_read, rules_read}
use Rattle.bodies.specs.Laws.Answered.{given_of, given_before, given_next}
use Rattle.bodies.specs.Laws.Ranges.{properties_le, properties_some}
use Rattle.models.specs.declared.model.Model.{Model}
use Rattle.models.specs.Reading.{text_start, on_line, body_read, finished, behind_init, read_model, places_of}
use Rattle.models.specs.Written.{Described, property_at, rule_at, Legal, written_property, written_model, or_false, expr_at, property_in, start_at, rule_of, rule_in, described}
use Rattle.models.proofs.Laws.Finished.{last_numbers, by_last}
use Rattle.models.specs.Laws.Lists.{behind}
use Rattle.models.specs.Laws.Rules.{StartStands, no_start, some_start, LegalRules, Upto, rules_back, rules_there}
use Rattle.models.specs.Laws.Properties.{LegalEach, count_there, rule_no_property, properties_room, Stated, properties_back, properties_there}

-- ---- the model of a text whose parts stand at given places

pub described_count : (text : List ℕ) (m : Model) → length (described text m).rules ≡ m.rules
unfolding described
described_count text m = length_tabulate m.rules (rule_in text m)

pub described_rule : (text : List ℕ) (m : Model) (i : ℕ) → i < m.rules → rule_at (described text m).rules i ≡ rule_in text m i
unfolding described
described_rule text m i h = get_d_tabulate m.rules (rule_in text m) _ i h

pub described_properties : (text : List ℕ) (m : Model) → length (described text m).props ≡ m.properties
unfolding described
described_properties text m = length_tabulate m.properties (property_in text m)

pub described_property : (text : List ℕ) (m : Model) (j : ℕ) → j < m.properties → property_at (described text m).props j ≡ property_in text m j
unfolding described
described_property text m j h = get_d_tabulate m.properties (property_in text m) _ j h

-- the answer of the reading finds the parts of the model M: N, R, how many properties there are, and at their places the expressions, the names and the
-- parts of the rules
pub record Finds (text : List ℕ) (M : Described) (answer : Answer Model) : Type 0 where
  pub accepted : outcome_of answer ≡ Accepted
  pub vars : (places_of answer).vars ≡ M.vars
  pub rules : (places_of answer).rules ≡ length M.rules
  pub init : read_expr (drop (places_of answer).init text) ≡ some M.init
  pub properties : (places_of answer).properties ≡ length M.props
  pub props : (j : ℕ) → j < length M.props → read_expr (drop (get_or (places_of answer).props j 0) text) ≡ some (property_at M.props j)
  pub steps : (i : ℕ) → i < length M.rules → read_expr (drop (get_or (places_of answer).parts i no_parts).step text) ≡ some (rule_at M.rules i).step
  pub starts : (i : ℕ) → i < length M.rules → let p = get_or (places_of answer).parts i no_parts in start_at text p.step p.start ≡ (rule_at M.rules i).start
  pub names : (i : ℕ) → i < length M.rules → name_of text (get_or (places_of answer).parts i no_parts) ≡ (rule_at M.rules i).name

read_at : (text : List ℕ) (at : ℕ) (e : Expr) → read_expr (drop at text) ≡ some e → e ≡ expr_at text at
unfolding expr_at or_false
read_at text at e q = sym (ap or_false q)

same_rule : {r s : Rule} → r.name ≡ s.name → r.step ≡ s.step → r.start ≡ s.start → r ≡ s
same_rule p q t i = record { name = p i; step = q i; start = t i }

same_parts : {M N : Described} → M.vars ≡ N.vars → M.init ≡ N.init → M.props ≡ N.props → M.rules ≡ N.rules → M ≡ N
same_parts a b c d i = record { vars = a i; init = b i; props = c i; rules = d i }

-- the model that is found is the one that the places tell
pub found_is_described : (text : List ℕ) (M : Described) (answer : Answer Model) → Finds text M answer → M ≡ described text (places_of answer)
unfolding described property_in rule_in rule_of
found_is_described text M answer f =
    let m : Model = places_of answer in
    same_parts (sym f.vars) (read_at text m.init M.init f.init)
    (tabulated m.properties (property_in text m) _ M.props (sym f.properties) (λ j h.
    read_at text (get_or m.props j 0) (property_at M.props j) (f.props j (rw f.properties at h))))
    (tabulated m.rules (rule_in text m) _ M.rules (sym f.rules) (λ i h.
    let k : i < length M.rules = rw f.rules at h in
    same_rule (sym (f.names i k)) (read_at text (get_or m.parts i no_parts).step (rule_at M.rules i).step (f.steps i k)) (sym (f.starts i k))))

-- ---- the lines before the rules

-- the places of the lines behind lines of so many bytes
abbrev place₂ : ℕ → LineStart
place₂ a = behind_line text_start a

abbrev place₃ : ℕ → ℕ → LineStart
place₃ a b = behind_line (place₂ a) b

abbrev place₄ : ℕ → ℕ → ℕ → LineStart
place₄ a b c = behind_line (place₃ a b) c

-- what is read of a line, and the place behind it
abbrev read_as : LineStart → ℕ → ℕ → LineRead ℕ
read_as p v bytes = record { value = v; place = behind_line p bytes }

on_line_is : (text : List ℕ) (p : LineStart) (read : List ℕ → Line ℕ) (next : LineRead ℕ → Answer Model) {v bytes : ℕ} → read (drop p.at text) ≡ Read v bytes
    → unless_refused (on_line text p read) next ≡ next (read_as p v bytes)
unfolding on_line following unless_refused
on_line_is text p read next q = rw q

on_line_back : (text : List ℕ) (p : LineStart) (read : List ℕ → Line ℕ) (next : LineRead ℕ → Answer Model)
    → outcome_of (unless_refused (on_line text p read) next) ≡ Accepted → (v : ℕ) × (bytes : ℕ) × (read (drop p.at text) ≡ Read v bytes)
unfolding on_line following unless_refused
on_line_back text p read next q = go (read (drop p.at text)) q
  where
    go : (l : Line ℕ) → outcome_of (unless_refused (following p l) next) ≡ Accepted → (v : ℕ) × (bytes : ℕ) × (l ≡ Read v bytes)
    go (Fault number) q = cc
    go (Read v bytes) q = (v, bytes, refl)

-- A line of an accepted text, at a place: what it says, the text behind it, and that what follows is accepted too.
record Behind {X : Type 0} (Lawful : X → Type 0) (form : X → List ℕ) (says : X → ℕ) (text : List ℕ) (p : LineStart) (next : LineRead ℕ → Answer Model) : Type 0 where
  what : X
  lawful : Lawful what
  rest : List ℕ
  text_is : drop p.at text ≡ form what ++ rest
  accepted : outcome_of (next (read_as p (says what) (length (form what)))) ≡ Accepted

line_back : {X : Type 0} (Lawful : X → Type 0) (form : X → List ℕ) (says : X → ℕ) (read : List ℕ → Line ℕ) → Reads Read Lawful form says read
    → (text : List ℕ) (p : LineStart) (next : LineRead ℕ → Answer Model) → outcome_of (unless_refused (on_line text p read) next) ≡ Accepted → Behind Lawful form says text p next
line_back Lawful form says read reads text p next q =
    let s : List ℕ = drop p.at text in
    let l = on_line_back text p read next q in
    let b = reads.back s l.0 l.1 l.2 in
    let e : read s ≡ Read (says b.0) (length (form b.0)) = ap read b.2.1 ∙ reads.there b.0 b.1 b.2.0 in
    record {
      what = b.0;
      lawful = b.1;
      rest = b.2.0;
      text_is = b.2.1;
      accepted = ap outcome_of (sym (on_line_is text p read next e)) ∙ q;
    }

pub read_is : (text : List ℕ) {n count init a b c : ℕ} → count_line vars_key 7 text ≡ Read n a
    → count_line rules_key 16 (drop (place₂ a).at text) ≡ Read count b
    → state_line init_key n (drop (place₃ a b).at text) ≡ Read init c
    → let properties = property_count (drop (place₄ a b c).at text) in
    read_model text ≡ finished text n count ((place₃ a b).at + init) properties (body_read text n count (place₄ a b c) properties)
unfolding read_model on_line following unless_refused behind_init
read_is text p q r = rw (p, q, r)

finished_back : (text : List ℕ) (n count init properties : ℕ) (body : Answer Progress) → outcome_of (finished text n count init properties body) ≡ Accepted
    → (r : Progress) × (body ≡ Given r) × (length text ≤ r.place.at)
finished_back text n count init properties body =
    by_last text n count init properties body (λ x. outcome_of x ≡ Accepted → (r : Progress) × (body ≡ Given r) × (length text ≤ r.place.at))
    (λ _ _ _ q. cc)
    (λ _ _ _ q. cc)
    (λ r e h _. (r, e, h))

-- ---- the whole text

-- what follows a part that begins at a place of the text
behind_place : (text : List ℕ) (p : LineStart) (part rest : List ℕ) → drop p.at text ≡ part ++ rest → drop (behind_line p (length part)).at text ≡ rest
unfolding behind_line
behind_place text p part rest q = behind text p.at part rest q

behind_three : (a b c : ℕ) → (place₄ a b c).at ≡ a + b + c
unfolding behind_line
behind_three a b c = omega arith

regroup : (a b c d e : List ℕ) → a ++ b ++ c ++ d ++ e ≡ a ++ (b ++ (c ++ (d ++ e)))
regroup a b c d e = simp append_assoc

pub length_five : (a b c d e : List ℕ) → length (a ++ (b ++ (c ++ (d ++ e)))) ≡ length a + length b + length c + length d + length e
length_five a b c d e = simp length-append (omega arith)

pub written_lines : (M : Described) → written_model M
    ≡ line vars_key (decimal M.vars)
    ++ (line rules_key (decimal (length M.rules))
    ++ (line init_key (written M.init) ++ (flat_map written_property M.props ++ flat_map written_rule M.rules)))
unfolding written_model
written_lines M =
    regroup (line vars_key (decimal M.vars)) (line rules_key (decimal (length M.rules))) (line init_key (written M.init)) (flat_map written_property M.props) (flat_map written_rule M.rules)

-- no property line follows the last one
rules_no_property : (rules : List Rule) → 1 ≤ length rules → starts_with prop_key (flat_map written_rule rules) ≡ false
unfolding flat_map
rules_no_property [] h = absurd (omega arith)
rules_no_property (r ∷ rules) h = rule_no_property r (flat_map written_rule rules)

module _ (n : ℕ) (h : n ≤ 7) (capitals : Bool) (e : Expr) (l : LegalExpr n capitals e) where
  legal_read : (s rest : List ℕ) → s ≡ written e ++ rest → read_expr s ≡ some e
  legal_read s rest q = (reads_what_is_written s e).1 (letters_more n 7 h e l.letters, (rest, q))

  -- the expression of a line stands behind its key
  line_read : (text : List ℕ) (at : ℕ) (key rest : List ℕ) → drop at text ≡ line key (written e) ++ rest → read_expr (drop (at + length key) text) ≡ some e
  line_read text at key rest q = legal_read (drop (at + length key) text) (10 ∷ rest) (behind text at key (written e ++ 10 ∷ rest) (q ∙ line_append key (written e) rest))

-- the start part of a legal rule is the one that stands behind its step part
start_read : (n : ℕ) → n ≤ 7 → (start : Option Expr) → LegalStart n start → (text : List ℕ) (step : ℕ) (place : StartPlace) → StartStands (drop step text) start place
    → start_at text step place ≡ start
unfolding start_at
start_read n h none l text step None no_start = refl
start_read n h none l text step (Some bytes) s = elim s [ ]
start_read n h (some e) l text step None s = elim s [ ]
start_read n h (some e) l text step (Some bytes) (some_start rest b q) =
    ap some (sym (read_at (drop step text) bytes e (legal_read n h false e l (drop bytes (drop step text)) rest q)))

-- property lines that are read, and rule lines behind them
body_is : (text : List ℕ) (n count : ℕ) (p : LineStart) (properties : ℕ) {before r : Progress} → properties_read text n (none_read p) properties ≡ Given before
    → rules_read text n before count ≡ Given r → body_read text n count p properties ≡ Given r
unfolding body_read
body_is text n count p properties a b = given_next (λ before. rules_read text n before count) a ∙ b

body_back : (text : List ℕ) (n count : ℕ) (p : LineStart) (properties : ℕ) {r : Progress} → body_read text n count p properties ≡ Given r
    → (before : Progress) × (properties_read text n (none_read p) properties ≡ Given before) × (rules_read text n before count ≡ Given r)
unfolding body_read
body_back text n count p properties = given_before (properties_read text n (none_read p) properties) (λ before. rules_read text n before count)

-- the written form of a legal model is accepted, and each part is found where the reading says
pub written_is_found : (M : Described) → Legal M → Finds (written_model M) M (read_model (written_model M))
written_is_found M legal =
    let text : List ℕ = written_model M in
    let n : ℕ = M.vars in
    let rules : List Rule = M.rules in
    let l₁ : List ℕ = line vars_key (decimal n) in
    let l₂ : List ℕ = line rules_key (decimal (length rules)) in
    let l₃ : List ℕ = line init_key (written M.init) in
    let l₄ : List ℕ = flat_map written_property M.props in
    let last : List ℕ = flat_map written_rule rules in
    let p₂ : LineStart = place₂ (length l₁) in
    let p₃ : LineStart = behind_line p₂ (length l₂) in
    let p₄ : LineStart = behind_line p₃ (length l₃) in
    let h : n ≤ 7 = legal.vars.at_most in
    let t₁ : text ≡ l₁ ++ (l₂ ++ (l₃ ++ (l₄ ++ last))) = written_lines M in
    let t₂ : drop p₂.at text ≡ l₂ ++ (l₃ ++ (l₄ ++ last)) = behind_place text text_start l₁ (l₂ ++ (l₃ ++ (l₄ ++ last))) t₁ in
    let t₃ : drop p₃.at text ≡ l₃ ++ (l₄ ++ last) = behind_place text p₂ l₂ (l₃ ++ (l₄ ++ last)) t₂ in
    let t₄ : drop p₄.at text ≡ l₄ ++ last = behind_place text p₃ l₃ (l₄ ++ last) t₃ in
    let few : length M.props ≤ 4 = legal.properties.at_most in
    let counted : property_count (drop p₄.at text) ≡ length M.props =
    ap property_count t₄ ∙ count_there n h M.props legal.properties.at_least few legal.props last (rules_no_property rules legal.count.at_least) in
    let stated = properties_there text n p₄ M.props last h few legal.props t₄ in
    let q : Progress = stated.0 in
    let v : Stated text p₄ M.props q = stated.2 in
    let t₅ : drop q.place.at text ≡ last = ap (λ x. drop x text) v.place ∙ behind text p₄.at l₄ last t₄ in
    let each : LegalRules n rules = record { each = legal.rules; apart = λ j k i m. legal.names i j m k } in
    let behind_them = rules_there text n q rules (given_of (properties_room text n p₄ (length M.props)) stated.1) h legal.count.at_most each t₅ in
    let r : Progress = behind_them.0 in
    let u : Upto text q rules r = behind_them.2 in
    let body : body_read text n (length rules) p₄ (length M.props) ≡ Given r = body_is text n (length rules) p₄ (length M.props) stated.1 behind_them.1 in
    let size : length text ≤ r.place.at =
    omega (arith, ap length t₁, length_five l₁ l₂ l₃ l₄ last, u.place, v.place, behind_three (length l₁) (length l₂) (length l₃)) in
    subst (Finds text M)
    (sym
    (read_is text
    (ap (count_line vars_key 7) t₁ ∙ vars_reads.there n legal.vars (l₂ ++ (l₃ ++ (l₄ ++ last))))
    (ap (count_line rules_key 16) t₂ ∙ rules_reads.there (length rules) legal.count (l₃ ++ (l₄ ++ last)))
    (ap (state_line init_key n) t₃ ∙ (init_reads n h).there M.init legal.init (l₄ ++ last))
    ∙ ap (λ properties. finished text n (length rules) (p₃.at + length init_key) properties (body_read text n (length rules) p₄ properties)) counted
    ∙ (last_numbers text n (length rules) (p₃.at + length init_key) (length M.props) _).by_none r body size))
    (record {
      accepted = refl;
      vars = refl;
      rules = refl;
      init = line_read n h false M.init legal.init text p₃.at init_key (l₄ ++ last) t₃;
      properties = refl;
      props = λ j k.
          legal_read n h false (property_at M.props j) (legal.props j k) (drop (get_or r.props j 0) text) (v.located j k).rest
          (ap (λ (x : List ℕ). drop (get_or x j 0) text) u.props ∙ (v.located j k).is);
      steps = λ i k.
          legal_read n h true (rule_at rules i).step (legal.rules i k).step (drop (get_or r.parts i no_parts).step text) (u.located i k).rest (u.located i k).step_is;
      starts = λ i k.
          let p = get_or r.parts i no_parts in
          start_read n h (rule_at rules i).start (legal.rules i k).start text p.step p.start (u.located i k).start_is;
      names = λ i k. (u.located i k).name_is;
    })

-- an accepted text is the written form of a legal model
pub accepted_is_written : (text : List ℕ) → outcome_of (read_model text) ≡ Accepted → (M : Described) × Legal M × (text ≡ written_model M)
unfolding read_model behind_init
accepted_is_written text q =
    let a = line_back (Within 1 7) (λ n. line vars_key (decimal n)) (λ n. n) (count_line vars_key 7) vars_reads text text_start _ q in
    let n : ℕ = a.what in
    let h : n ≤ 7 = a.lawful.at_most in
    let l₁ : List ℕ = line vars_key (decimal n) in
    let p₂ : LineStart = behind_line text_start (length l₁) in
    let b = line_back (Within 1 16) (λ m. line rules_key (decimal m)) (λ m. m) (count_line rules_key 16) rules_reads text p₂ _ a.accepted in
    let count : ℕ = b.what in
    let l₂ : List ℕ = line rules_key (decimal count) in
    let p₃ : LineStart = behind_line p₂ (length l₂) in
    let c = line_back (LegalExpr n false) (λ e. line init_key (written e)) (λ e. length init_key) (state_line init_key n) (init_reads n h) text p₃ _ b.accepted in
    let l₃ : List ℕ = line init_key (written c.what) in
    let p₄ : LineStart = behind_line p₃ (length l₃) in
    let s : List ℕ = drop p₄.at text in
    let f = finished_back text n count (p₃.at + length init_key) (property_count s) (body_read text n count p₄ (property_count s)) c.accepted in
    let r : Progress = f.0 in
    let w = body_back text n count p₄ (property_count s) f.1 in
    let before : Progress = w.0 in
    let d = properties_back text n p₄ h (property_count s) (properties_le s) before w.1 in
    let g = rules_back text n before (given_of (properties_room text n p₄ (property_count s)) w.1) h count b.lawful.at_most r w.2 in
    let l₄ : List ℕ = flat_map written_property d.props in
    let last : List ℕ = flat_map written_rule g.rules in
    let M : Described = record { vars = n; init = c.what; props = d.props; rules = g.rules } in
    let t₁ : a.rest ≡ l₂ ++ b.rest = sym (behind_place text text_start l₁ a.rest a.text_is) ∙ b.text_is in
    let t₂ : b.rest ≡ l₃ ++ c.rest = sym (behind_place text p₂ l₂ b.rest b.text_is) ∙ c.text_is in
    let t₃ : c.rest ≡ l₄ ++ drop before.place.at text = sym (behind_place text p₃ l₃ c.rest c.text_is) ∙ d.stated.lines in
    let t₄ : drop before.place.at text ≡ last = g.upto.lines ∙ ap (λ x. last ++ x) (drop_of_length-le text f.2) ∙ append-nil last in (
      M,
      record {
        vars = a.lawful;
        properties = record { at_least = omega (arith, d.count, properties_some s); at_most = omega (arith, d.count, properties_le s) };
        count = rw g.count b.lawful;
        init = c.lawful;
        props = d.legal;
        rules = g.legal.each;
        names = λ i j k m. g.legal.apart j m i k;
      },
      a.text_is
          ∙ ap (λ x. l₁ ++ x) (t₁ ∙ ap (λ x. l₂ ++ x) (t₂ ∙ ap (λ x. l₃ ++ x) (t₃ ∙ ap (λ x. l₄ ++ x) t₄)))
          ∙ ap (λ m. l₁ ++ (line rules_key (decimal m) ++ (l₃ ++ (l₄ ++ last)))) (sym g.count)
          ∙ sym (written_lines M),
    )

-- the model of an accepted text
pub accepted_is_found : (text : List ℕ) → outcome_of (read_model text) ≡ Accepted
    → (M : Described) × Legal M × (text ≡ written_model M) × Finds text M (read_model text)
accepted_is_found text q =
    let w = accepted_is_written text q in
    (w.0, w.1, w.2, subst (λ t. Finds t w.0 (read_model t)) (sym w.2) (written_is_found w.0 w.1))

-- ---- how long a legal model is

start_length : (n : ℕ) (start : Option Expr) → LegalStart n start → length (written_start start) ≤ 65
unfolding written_start size
start_length n none l = omega arith
start_length n (some e) l = omega (arith, l.bytes)

rule_length : (n : ℕ) (r : Rule) → LegalRule n r → length (written_rule r) ≤ 144
unfolding written_rule written_parts size
rule_length n r l =
    omega (arith, l.name_length.at_most, l.step.bytes, start_length n r.start l.start, length_line rule_key (r.name ++ 58 ∷ written_parts r), length-append r.name (58 ∷ written_parts r), length-append (written r.step) (written_start r.start))

pub rules_length : (n : ℕ) (rs : List Rule) → ((i : ℕ) → i < length rs → LegalRule n (rule_at rs i)) → length (flat_map written_rule rs) ≤ 144 * length rs
unfolding flat_map
rules_length n [] f = omega arith
rules_length n (r ∷ rs) f =
    omega (arith, rule_length n r (f 0 (omega arith)), rules_length n rs (λ i h. f (suc i) (omega arith)), length-append (written_rule r) (flat_map written_rule rs))

property_length : (n : ℕ) (e : Expr) → LegalExpr n false e → length (written_property e) ≤ 70
unfolding written_property size
property_length n e l = omega (arith, l.bytes, length_line prop_key (written e))

pub properties_length : (n : ℕ) (es : List Expr) → LegalEach n es → length (flat_map written_property es) ≤ 70 * length es
unfolding flat_map
properties_length n [] f = omega arith
properties_length n (e ∷ es) f =
    omega (arith, property_length n e (f 0 (omega arith)), properties_length n es (λ j h. f (suc j) (omega arith)), length-append (written_property e) (flat_map written_property es))

pub decimal_length : (n : ℕ) → n < 100 → length (decimal n) ≤ 2
decimal_length n h = decimal_short (λ v. length v ≤ 2) n h (λ _. omega arith) (λ _. omega arith)
