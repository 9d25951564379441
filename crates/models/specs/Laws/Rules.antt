-- The rule lines of a model text, one after the other: reading them finds exactly written forms of legal rules, of which no two have the same name,
-- and each name and each part at its place. From the law of one rule line, by induction on the number of lines.
use Prim.Native.Nat.{ℕ, zero, suc, ◌+◌, ◌-◌, ◌≤◌, ◌<◌}
use Rattle.std.specs.Prelude.{◌≡◌, ◌≢◌, Bool, Some, None, get_or, take, set}
use Rattle.std.proofs.Math.Path.{refl, sym, ap, ap₂}
use Rattle.std.proofs.Common.{◌∙◌, subst, length-set, take-suc, get_or-take, length-take-le}
use Rattle.std.proofs.Math.Bool.{false, true, ◌||◌, false≢true}
use mathlib.Mathlib.Data.Bool.Basic.{or-eq-false-eq-eq-false-and-eq-false}
use mathlib.Core.List.{List, [], ◌∷◌, ◌++◌, append_assoc, flat_map}
use Rattle.std.proofs.Math.Option.{Option, none, some}
use native.Mathlib.Omega.{arith}
use Rattle.std.proofs.Math.ListN.{length, drop, length-append, get_or-append}
use Rattle.std.proofs.Math.Seq.{take-length, take-append_seam, drop-append-add, get_or-set_same, get_or-set_other}
use Rattle.std.proofs.lemmas.List.{take_all}
use Rattle.sets.specs.Tabulated.{tabulate}
use Rattle.sets.specs.Laws.Tabulated.{length_tabulate, get_d_tabulate}
use Rattle.exprs.specs.Expr.{Expr, written}
use Rattle.rule_lines.specs.declared.names.RuleParts.{RuleParts}
use Rattle.slices.specs.Same.{same}
use Rattle.refusals.specs.Answers.{Given}
use Rattle.lines.specs.Lines.{Line, Fault, Read, rule_key}
use Rattle.rule_lines.specs.RuleLines.{StartPlace, no_parts, step_length, start_from, parts_at, rule_line, name_of, is_taken}
use Rattle.lines.specs.Written.{Rule, LegalRule, written_start, written_parts, written_rule}
use Rattle.slices.specs.Laws.Same.{same_is, same_true, same_false}
use Rattle.lines.proofs.Laws.Lines.{line_append}
use Rattle.rule_lines.proofs.Laws.Parts.{start_behind, parts_there}
use Rattle.rule_lines.proofs.Laws.RuleLines.{rule_reads}
use Rattle.bodies.specs.declared.progress.Progress.{Progress}
use Rattle.bodies.specs.Body.{behind_line, following, unless_refused, with_rule, ruled, next_rule, rules_read}
use Rattle.bodies.specs.Laws.Answered.{one_given, given_before, given_next}
use Rattle.models.specs.Written.{rule_at}
use Rattle.models.specs.Laws.Lists.{at_more, flat_map_more, flat_map_at, behind, one_behind}

-- ---- the names of the earlier rules

module _ (text name : List ℕ) where
  not_taken : (parts : List RuleParts) (i : ℕ) → ((j : ℕ) → j < i → name_of text (get_or parts j no_parts) ≢ name) → is_taken text (take i parts) name ≡ false
  unfolding is_taken
  not_taken parts zero f = refl
  not_taken [] (suc i) f = refl
  not_taken (p ∷ parts) (suc i) f = ap₂ ◌||◌ (same_false (name_of text p) name (f 0 (omega arith))) (not_taken parts i (λ j h. f (suc j) (omega arith)))

  pub taken_back : (parts : List RuleParts) (i : ℕ) → is_taken text (take i parts) name ≡ false
      → (j : ℕ) → j < i → j < length parts → name_of text (get_or parts j no_parts) ≢ name
  unfolding is_taken
  taken_back parts zero e j h b = absurd (omega arith)
  taken_back [] (suc i) e j h b = absurd (omega arith)
  taken_back (p ∷ parts) (suc i) e zero h b =
      let f = (or-eq-false-eq-eq-false-and-eq-false (same (name_of text p) name) (is_taken text (take i parts) name)).0 e in
      λ q. false≢true (sym f.0 ∙ same_true (name_of text p) name q)
  taken_back (p ∷ parts) (suc i) e (suc j) h b =
      let f = (or-eq-false-eq-eq-false-and-eq-false (same (name_of text p) name) (is_taken text (take i parts) name)).0 e in
      taken_back parts i f.1 j (omega arith) (omega arith)

  -- The same of i entries, `no_parts` in the place of each that `parts` has not.
  pub taken_back_all : (parts : List RuleParts) (i : ℕ) → is_taken text (tabulate i (λ j. get_or parts j no_parts)) name ≡ false
      → (j : ℕ) → j < i → name_of text (get_or parts j no_parts) ≢ name
  taken_back_all parts i e j h =
      let entry : ℕ → RuleParts = λ j. get_or parts j no_parts in
      let count : length (tabulate i entry) ≡ i = length_tabulate i entry in
      let free = taken_back (tabulate i entry) i (ap (λ l. is_taken text l name) (take_all i (tabulate i entry) (omega (arith, count))) ∙ e) j h (omega (arith, count)) in
      subst (λ p. name_of text p ≢ name) (get_d_tabulate i entry no_parts j h) free

  pub taken_there : (parts : List RuleParts) (i : ℕ) → is_taken text (take i parts) name ≡ true → (j : ℕ) × (j < i) × (name_of text (get_or parts j no_parts) ≡ name)
  unfolding is_taken
  taken_there parts zero t = absurd (false≢true t)
  taken_there [] (suc i) t = absurd (false≢true t)
  taken_there (p ∷ parts) (suc i) t = go (same (name_of text p) name) refl t (taken_there parts i)
    where
      go : (b : Bool) → same (name_of text p) name ≡ b → (b || is_taken text (take i parts) name) ≡ true
          → (is_taken text (take i parts) name ≡ true → (j : ℕ) × (j < i) × (name_of text (get_or parts j no_parts) ≡ name))
          → (j : ℕ) × (j < suc i) × (name_of text (get_or (p ∷ parts) j no_parts) ≡ name)
      go true q t others = (0, omega arith, same_is (name_of text p) name q)
      go false q t others = let w = others t in (suc w.0, omega (arith, w.1), w.2)

-- ---- the rule lines

-- The rules rs are legal in a model with n bits, and no two have the same name.
pub record LegalRules (n : ℕ) (rs : List Rule) : Type 0 where
  pub each : (j : ℕ) → j < length rs → LegalRule n (rule_at rs j)
  pub apart : (j : ℕ) → j < length rs → (i : ℕ) → i < j → (rule_at rs i).name ≢ (rule_at rs j).name

-- no rule of rs has the name of this one
abbrev New : List Rule → Rule → Type 0
New rs rule = (j : ℕ) → j < length rs → (rule_at rs j).name ≢ rule.name

legal_more : (n : ℕ) (rs : List Rule) (rule : Rule) → LegalRules n rs → LegalRule n rule → New rs rule
    → LegalRules n (rs ++ rule ∷ [])
legal_more n rs rule l r f = record {
  each = at_more (λ _ x. LegalRule n x) _ rs rule l.each r;
  apart = at_more (λ j x. (i : ℕ) → i < j → (rule_at (rs ++ rule ∷ []) i).name ≢ x.name) _ rs rule
      (λ j h i k. rw (get_or-append rs (rule ∷ []) _ i (omega arith)) (l.apart j h i k))
      (λ i k. rw (get_or-append rs (rule ∷ []) _ i k) (f i k));
}

-- s, which begins with a step part, has the start part so many bytes behind; or there is none, and no number.
pub data StartStands (s : List ℕ) : Option Expr → StartPlace → Type 0 where
  no_start : StartStands s none None
  some_start : {e : Expr} {bytes : ℕ} (rest : List ℕ) → 0 < bytes → drop bytes s ≡ written e ++ rest → StartStands s (some e) (Some bytes)

-- it stands behind the second `:`
start_behind_lem : (step : Expr) (start : Option Expr) (s rest : List ℕ) → s ≡ written step ++ (written_start start ++ rest) → StartStands s start (start_behind step start)
unfolding written_start
start_behind_lem step none s rest q = no_start
start_behind_lem step (some e) s rest q =
    some_start {bytes = length (written step) + 1} rest (omega arith) (ap (drop (length (written step) + 1)) q ∙ drop-append-add (written step) (58 ∷ (written e ++ rest)) 1)

-- The name and the parts of a rule stand at the places that are given for them.
pub record Located (text : List ℕ) (p : RuleParts) (rule : Rule) : Type 0 where
  pub name_is : name_of text p ≡ rule.name
  pub rest : List ℕ
  pub step_is : drop p.step text ≡ written rule.step ++ rest
  pub start_is : StartStands (drop p.step text) rule.start p.start

rule_append : (r : Rule) (rest : List ℕ) → written_rule r ++ rest ≡ rule_key ++ (r.name ++ 58 ∷ (written_parts r ++ 10 ∷ rest))
unfolding written_rule
rule_append r rest = line_append rule_key (r.name ++ 58 ∷ written_parts r) rest ∙ ap (λ x. rule_key ++ x) (append_assoc r.name (58 ∷ written_parts r) (10 ∷ rest))

-- a rule of which a line tells has its name behind `rule=`, its step part behind `:`, and its start part so far behind that
located_new : (text : List ℕ) (at : ℕ) (rule : Rule) (rest : List ℕ) → start_from (step_length (written_parts rule)) (written_parts rule) ≡ start_behind rule.step rule.start
    → drop at text ≡ written_rule rule ++ rest → Located text (parts_at at (length rule.name) (written_parts rule)) rule
unfolding name_of written_parts parts_at
located_new text at rule rest b w =
    let value : List ℕ = written_parts rule ++ 10 ∷ rest in
    let name : ℕ = at + 5 in
    let step : ℕ = at + (6 + length rule.name) in
    let named : drop name text ≡ rule.name ++ 58 ∷ value = behind text at rule_key (rule.name ++ 58 ∷ value) (w ∙ rule_append rule rest) in
    let size : step - 1 - name ≡ length rule.name = omega arith in
    let place : step ≡ name + length (rule.name ++ 58 ∷ []) = omega (arith, length-append rule.name (58 ∷ [])) in
    let parts : drop step text ≡ written rule.step ++ (written_start rule.start ++ 10 ∷ rest) =
    ap (λ x. drop x text) place
    ∙ behind text name (rule.name ++ 58 ∷ []) value (named ∙ sym (append_assoc rule.name (58 ∷ []) value))
    ∙ append_assoc (written rule.step) (written_start rule.start) (10 ∷ rest) in
    record {
      name_is = rw (size, named) (take-append_seam rule.name (58 ∷ value));
      rest = written_start rule.start ++ 10 ∷ rest;
      step_is = parts;
      start_is = rw b (start_behind_lem rule.step rule.start (drop step text) (10 ∷ rest) parts);
    }

-- The arrays have an entry for each part that there can be.
pub record PlaceArrays (r : Progress) : Type 0 where
  pub props : length r.props ≡ 4
  pub parts : length r.parts ≡ 16

-- Reading the rules rs, whose lines follow what was read before, gives r.
pub record Upto (text : List ℕ) (before : Progress) (rs : List Rule) (r : Progress) : Type 0 where
  pub place : r.place.at ≡ before.place.at + length (flat_map written_rule rs)
  pub lines : drop before.place.at text ≡ flat_map written_rule rs ++ drop r.place.at text
  pub room : PlaceArrays r
  pub props : r.props ≡ before.props
  pub located : (j : ℕ) → j < length rs → Located text (get_or r.parts j no_parts) (rule_at rs j)

upto_none : (text : List ℕ) (before : Progress) → PlaceArrays before → Upto text before [] before
unfolding flat_map
upto_none text before room = record { place = omega arith; lines = refl; room = room; props = refl; located = λ j h. absurd (omega arith) }

-- the state behind the line of this rule, where so many are read before it
abbrev behind_rule : ℕ → Progress → Rule → Progress
behind_rule i r rule = with_rule r i (parts_at r.place.at (length rule.name) (written_parts rule)) (behind_line r.place (length (written_rule rule)))

upto_more : (text : List ℕ) (before : Progress) (rs : List Rule) (r : Progress) (rule : Rule) (rest : List ℕ) → Upto text before rs r → length rs < 16
    → start_from (step_length (written_parts rule)) (written_parts rule) ≡ start_behind rule.step rule.start
    → drop r.place.at text ≡ written_rule rule ++ rest → Upto text before (rs ++ rule ∷ []) (behind_rule (length rs) r rule)
unfolding with_rule behind_line
upto_more text before rs r rule rest u h b q =
    let w : List ℕ = written_rule rule in
    let front : List ℕ = flat_map written_rule rs in
    let i : ℕ = length rs in
    let found : RuleParts = parts_at r.place.at (length rule.name) (written_parts rule) in
    let joined : flat_map written_rule (rs ++ rule ∷ []) ≡ front ++ w = flat_map_more written_rule rs rule in
    record {
      place = omega (arith, u.place, ap length joined, length-append front w);
      lines = one_behind text r.place.at (drop before.place.at text) front w rest u.lines q ∙ ap (λ x. x ++ drop (r.place.at + length w) text) (sym joined);
      room = record { props = u.room.props; parts = length-set r.parts i found ∙ u.room.parts };
      props = u.props;
      located = at_more (λ j x. Located text (get_or (set r.parts i found) j no_parts) x) _ rs rule
          (λ j k. let other : j ≢ i = omega arith in rw (get_or-set_other r.parts i j found no_parts other) (u.located j k))
          (rw (get_or-set_same r.parts i found no_parts (omega (arith, u.room.parts))) (located_new text r.place.at rule rest b q));
    }

-- one more rule line is read
upto_next : (text : List ℕ) (n : ℕ) (before : Progress) (rs : List Rule) (r : Progress) (rule : Rule) (rest : List ℕ) → n ≤ 7 → Upto text before rs r → length rs < 16
    → LegalRule n rule → New rs rule → drop r.place.at text ≡ written_rule rule ++ rest
    → (next_rule text n (length rs) r ≡ Given (behind_rule (length rs) r rule)) × Upto text before (rs ++ rule ∷ []) (behind_rule (length rs) r rule)
unfolding next_rule ruled following unless_refused written_parts
upto_next text n before rs r rule rest b u h l f q =
    let taken : List ℕ → Bool = is_taken text (take (length rs) r.parts) in
    let free : taken rule.name ≡ false = not_taken text rule.name r.parts (length rs) (λ j k e. f j k (sym (u.located j k).name_is ∙ e)) in (
      rw (ap (rule_line n taken r.place.at) q ∙ (rule_reads n b taken r.place.at).there rule (l, free) rest),
      upto_more text before rs r rule rest u h (parts_there n b rule.step l.step rule.start l.start).start_from_is q,
    )

-- What the reading of the first i rule lines has found.
pub record Ruled (text : List ℕ) (n : ℕ) (before : Progress) (i : ℕ) (r : Progress) : Type 0 where
  pub rules : List Rule
  pub count : length rules ≡ i
  pub legal : LegalRules n rules
  pub upto : Upto text before rules r

-- a line that is not refused is read
unruled : (i : ℕ) (r : Progress) (l : Line RuleParts) {q : Progress} → ruled i r l ≡ Given q → (found : RuleParts) × (bytes : ℕ) × (l ≡ Read found bytes)
unfolding ruled following unless_refused
unruled i r (Fault number) q = cc
unruled i r (Read found bytes) q = (found, bytes, refl)

-- rule lines that are read are written forms of legal rules
pub rules_back : (text : List ℕ) (n : ℕ) (before : Progress) → PlaceArrays before → n ≤ 7 → (i : ℕ) → i ≤ 16 → (r : Progress) → rules_read text n before i ≡ Given r
    → Ruled text n before i r
unfolding rules_read next_rule
rules_back text n before room b zero h r q = record {
  rules = [];
  count = refl;
  legal = record { each = λ j k. absurd (omega arith); apart = λ j k. absurd (omega arith) };
  upto = subst (Upto text before []) (one_given q) (upto_none text before room);
}
rules_back text n before room b (suc i) h r q =
    let w = given_before (rules_read text n before i) (next_rule text n i) q in
    let last : Progress = w.0 in
    let found = rules_back text n before room b i (omega arith) last w.1 in
    let rs = found.rules in
    let taken : List ℕ → Bool = is_taken text (take i last.parts) in
    let s = drop last.place.at text in
    let v = unruled i last (rule_line n taken last.place.at s) w.2 in
    let a = (rule_reads n b taken last.place.at).back s v.0 v.1 v.2 in
    let rule = a.0 in
    let others = taken_back text rule.name last.parts i a.1.1 in
    let new : New rs rule = λ j k e. others j (omega (arith, found.count)) (omega (arith, found.count, found.upto.room.parts)) ((found.upto.located j k).name_is ∙ e) in
    let next = upto_next text n before rs last rule a.2.0 b found.upto (omega (arith, found.count)) a.1.0 new a.2.1 in
    let same : behind_rule (length rs) last rule ≡ r = one_given (sym next.0 ∙ ap (λ m. next_rule text n m last) found.count ∙ w.2) in
    record {
      rules = rs ++ rule ∷ [];
      count = omega (arith, found.count, length-append rs (rule ∷ []));
      legal = legal_more n rs rule found.legal a.1.0 new;
      upto = subst (Upto text before (rs ++ rule ∷ [])) same next.1;
    }

-- The lines of the rules rs are read behind what was read before.
abbrev pub ReadBehind : List ℕ → ℕ → Progress → ℕ → List Rule → Type 0
ReadBehind text n before i rs = (r : Progress) × (rules_read text n before i ≡ Given r) × Upto text before rs r

-- the first i of the rules that stand in the text, one after the other, are found
some_there : (text : List ℕ) (n : ℕ) (before : Progress) (rules : List Rule) → PlaceArrays before → n ≤ 7 → length rules ≤ 16 → LegalRules n rules
    → drop before.place.at text ≡ flat_map written_rule rules → (i : ℕ) → i ≤ length rules → ReadBehind text n before i (take i rules)
unfolding rules_read
some_there text n before rules room b c l q zero h = (before, refl, upto_none text before room)
some_there text n before rules room b c l q (suc i) h =
    let w = some_there text n before rules room b c l q i (omega arith) in
    let r : Progress = w.0 in
    let front = take i rules in
    let rule = rule_at rules i in
    let rest = flat_map written_rule (drop (suc i) rules) in
    let count : length front ≡ i = length-take-le i rules (omega arith) in
    let next =
    upto_next text n before front r rule rest b w.2 (omega arith) (l.each i h)
    (λ j k. rw (get_or-take i rules j _ (omega arith)) (l.apart i h j (omega arith)))
    (ap (λ m. drop m text) w.2.place ∙ behind text before.place.at (flat_map written_rule front) (written_rule rule ++ rest) (q ∙ flat_map_at written_rule rules i _ h)) in (
      behind_rule (length front) r rule,
      given_next (next_rule text n i) w.1 ∙ ap (λ m. next_rule text n m r) (sym count) ∙ next.0,
      subst (λ x. Upto text before x (behind_rule (length front) r rule)) (sym (take-suc rules i _ h)) next.1,
    )

-- the rules that stand in the text, one after the other, are found
pub rules_there : (text : List ℕ) (n : ℕ) (before : Progress) (rules : List Rule) → PlaceArrays before → n ≤ 7 → length rules ≤ 16 → LegalRules n rules
    → drop before.place.at text ≡ flat_map written_rule rules → ReadBehind text n before (length rules) rules
rules_there text n before rules room b c l q =
    subst (ReadBehind text n before (length rules)) (take-length rules) (some_there text n before rules room b c l q (length rules) (omega arith))
