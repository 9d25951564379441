-- The property lines of a model text, one after the other: reading them finds exactly written forms of legal expressions, each at its place, and
-- there are as many as are counted. From the law of one such line, by induction on the number of lines.
use Prim.Native.Nat.{ℕ, zero, suc, ◌+◌, ◌≤◌, ◌<◌}
use Rattle.std.specs.Prelude.{◌≡◌, refl, ◌≢◌, true, ltb, length, get_or, take, drop, set}
use Rattle.std.proofs.Math.Path.{sym, ap}
use Rattle.std.proofs.Common.{◌∙◌, subst, arith, length-append, length-set, take-suc, get_or-set_same, get_or-set_other, length-take-le}
use Rattle.std.proofs.Math.Bool.{false, and-eq-true_iff}
use mathlib.Core.List.{List, [], ◌∷◌, ◌++◌, append_assoc, flat_map}
use Rattle.std.proofs.lemmas.List.{length-replicate}
use Rattle.std.proofs.Math.Seq.{take-length}
use Rattle.exprs.specs.Expr.{Expr, written}
use Rattle.slices.specs.Same.{same}
use Rattle.lines.specs.declared.classes.Class.TheVariants.{InLine}
use Rattle.rule_lines.specs.declared.names.RuleParts.{RuleParts}
use Rattle.lines.specs.Bytes.{belongs, prefix}
use Rattle.lines.specs.Lines.{Line, Fault, Read, prop_key, rule_key, starts_with, is_line, line_length, all, state_line}
use Rattle.rule_lines.specs.RuleLines.{no_parts}
use Rattle.lines.specs.Written.{Rule, LegalExpr, written_rule}
use Rattle.lines.specs.Laws.Bytes.{all_append}
use Rattle.lines.proofs.Laws.Expressions.{legal_in_line}
use Rattle.lines.proofs.Laws.Heard.{Heard, fault, said, state_heard}
use Rattle.lines.proofs.Laws.Lines.{prop_reads, line_append, line_there}
use Rattle.refusals.specs.Answers.{Given}
use Rattle.bodies.specs.declared.progress.LineStart.{LineStart}
use Rattle.bodies.specs.declared.progress.Progress.{Progress}
use Rattle.bodies.specs.Properties.{after_line, leading, property_count}
use Rattle.bodies.specs.Body.{last_given, behind_line, following, unless_refused, none_read, with_property, propertied, next_property, properties_read}
use Rattle.bodies.specs.Laws.Answered.{refused, given, IfGiven, given_of, one_given, answered_next, last_of, given_before, given_next}
use Rattle.bodies.specs.Laws.Lines.{line_seam}
use Rattle.models.specs.Written.{property_at, written_property}
use Rattle.models.specs.Laws.Lists.{at_more, flat_map_more, flat_map_at, behind, one_behind}
use Rattle.models.specs.Laws.Rules.{PlaceArrays}

-- ---- how many there are

prop_key_in_line : all InLine prop_key ≡ true
unfolding all prefix belongs
prop_key_in_line = refl

-- a rule line is no property line
pub rule_no_property : (r : Rule) (rest : List ℕ) → starts_with prop_key (written_rule r ++ rest) ≡ false
unfolding written_rule same
rule_no_property r rest = ap (starts_with prop_key) (line_append rule_key (r.name ++ 58 ∷ written r.step) rest)

module _ (n : ℕ) (h : n ≤ 7) (e : Expr) (l : LegalExpr n false e) (rest : List ℕ) where
  property_starts : starts_with prop_key (written_property e ++ rest) ≡ true
  unfolding written_property is_line
  property_starts =
      let s : List ℕ = written_property e ++ rest in
      ((and-eq-true_iff (starts_with prop_key s) (ltb (line_length s) (length s))).0 (line_there prop_key prop_key_in_line (written e) rest (legal_in_line n false e h l)).is).0

  after_property : after_line (written_property e ++ rest) ≡ rest
  unfolding written_property
  after_property =
      ap after_line (line_append prop_key (written e) rest ∙ sym (append_assoc prop_key (written e) (10 ∷ rest)))
      ∙ line_seam (prop_key ++ written e) rest (all_append InLine prop_key (written e) ∙ rw (prop_key_in_line, legal_in_line n false e h l) refl)

-- each expression of a list is legal
abbrev pub LegalEach : ℕ → List Expr → Type 0
LegalEach n es = (j : ℕ) → j < length es → LegalExpr n false (property_at es j)

leading_there : (n : ℕ) → n ≤ 7 → (most : ℕ) (es : List Expr) → length es ≤ most → LegalEach n es → (rest : List ℕ) → starts_with prop_key rest ≡ false
    → leading most (flat_map written_property es ++ rest) ≡ length es
unfolding leading flat_map
leading_there n h zero [] b l rest f = refl
leading_there n h zero (e ∷ es) b l rest f = absurd (omega arith)
leading_there n h (suc most) [] b l rest f = rw f refl
leading_there n h (suc most) (e ∷ es) b l rest f =
    let more : List ℕ = flat_map written_property es ++ rest in
    ap (leading (suc most)) (append_assoc (written_property e) (flat_map written_property es) rest)
    ∙ rw (property_starts n h e (l 0 (omega arith)) more, after_property n h e (l 0 (omega arith)) more)
    (ap suc (leading_there n h most es (omega arith) (λ j k. l (suc j) (omega arith)) rest f))

-- property lines that stand in the text are counted
pub count_there : (n : ℕ) → n ≤ 7 → (es : List Expr) → 1 ≤ length es → length es ≤ 4 → LegalEach n es → (rest : List ℕ) → starts_with prop_key rest ≡ false
    → property_count (flat_map written_property es ++ rest) ≡ length es
unfolding property_count flat_map
count_there n h [] a b l rest f = absurd (omega arith)
count_there n h (e ∷ es) a b l rest f =
    let more : List ℕ = flat_map written_property es ++ rest in
    ap (λ s. suc (leading 3 (after_line s))) (append_assoc (written_property e) (flat_map written_property es) rest)
    ∙ ap (λ s. suc (leading 3 s)) (after_property n h e (l 0 (omega arith)) more)
    ∙ ap suc (leading_there n h 3 es (omega arith) (λ j k. l (suc j) (omega arith)) rest f)

-- ---- the arrays

room_line : (j : ℕ) (r : Progress) {s : List ℕ} {most : ℕ} {l : Line ℕ} → Heard s most l → PlaceArrays r → IfGiven PlaceArrays (propertied j r l)
unfolding propertied following unless_refused with_property
room_line j r (fault number w) h = refused tt
room_line j r (said w) h = given (record { props = length-set r.props j _ ∙ h.props; parts = h.parts })

none_room : (p : LineStart) → PlaceArrays (none_read p)
unfolding none_read
none_room p = record { props = length-replicate {A = ℕ} 4 0; parts = length-replicate {A = RuleParts} 16 no_parts }

pub properties_room : (text : List ℕ) (n : ℕ) (p : LineStart) (j : ℕ) → IfGiven PlaceArrays (properties_read text n (none_read p) j)
unfolding properties_read next_property
properties_room text n p zero = given (none_room p)
properties_room text n p (suc j) =
    answered_next (properties_read text n (none_read p) j) (next_property text n j) (properties_room text n p j) (λ _ _ _. tt) λ r _ h.
    room_line j r (state_heard prop_key n (drop r.place.at text)) h

-- also where a line was refused
pub properties_left_room : (text : List ℕ) (n : ℕ) (p : LineStart) (j : ℕ) → PlaceArrays (last_given (properties_read text n (none_read p)) (none_read p) j)
properties_left_room text n p = last_of (properties_read text n (none_read p)) (none_read p) (none_room p) (properties_room text n p)

-- ---- what is found

-- The expression e stands at the place that is given for property j.
pub record StandsAt (text props : List ℕ) (j : ℕ) (e : Expr) : Type 0 where
  pub rest : List ℕ
  pub is : drop (get_or props j 0) text ≡ written e ++ rest

module _ (text props : List ℕ) (i at : ℕ) where
  stands_other : (j : ℕ) (e : Expr) → j ≢ i → StandsAt text props j e → StandsAt text (set props i at) j e
  stands_other j e h l = record { rest = l.rest; is = rw (get_or-set_other props i j at 0 h) l.is }

  stands_new : (e : Expr) (rest : List ℕ) → i < length props → drop at text ≡ written e ++ rest → StandsAt text (set props i at) i e
  stands_new e rest k q = record { rest = rest; is = rw (get_or-set_same props i at 0 k) q }

-- Reading the properties es, whose lines begin at the place p, gives r.
pub record Stated (text : List ℕ) (p : LineStart) (es : List Expr) (r : Progress) : Type 0 where
  pub place : r.place.at ≡ p.at + length (flat_map written_property es)
  pub lines : drop p.at text ≡ flat_map written_property es ++ drop r.place.at text
  pub located : (j : ℕ) → j < length es → StandsAt text r.props j (property_at es j)

stated_none : (text : List ℕ) (p : LineStart) → Stated text p [] (none_read p)
unfolding none_read flat_map
stated_none text p = record { place = omega arith; lines = refl; located = λ j h. absurd (omega arith) }

-- the state behind the line of this property, where so many are read before it
abbrev behind_property : ℕ → Progress → Expr → Progress
behind_property j r e = with_property r j (r.place.at + length prop_key) (behind_line r.place (length (written_property e)))

stated_more : (text : List ℕ) (p : LineStart) (es : List Expr) (r : Progress) (e : Expr) (rest : List ℕ) → Stated text p es r → PlaceArrays r → length es < 4
    → drop r.place.at text ≡ written_property e ++ rest
    → Stated text p (es ++ e ∷ []) (behind_property (length es) r e)
unfolding with_property behind_line written_property
stated_more text p es r e rest u room h q =
    let w : List ℕ = written_property e in
    let front : List ℕ = flat_map written_property es in
    let joined : flat_map written_property (es ++ e ∷ []) ≡ front ++ w = flat_map_more written_property es e in
    record {
      place = omega (arith, u.place, ap length joined, length-append front w);
      lines = one_behind text r.place.at (drop p.at text) front w rest u.lines q ∙ ap (λ x. x ++ drop (r.place.at + length w) text) (sym joined);
      located = at_more (StandsAt text (set r.props (length es) (r.place.at + length prop_key))) _ es e
          (λ j k. stands_other text r.props (length es) (r.place.at + length prop_key) j (property_at es j) (omega arith) (u.located j k))
          (stands_new text r.props (length es) (r.place.at + length prop_key) e (10 ∷ rest) (omega (arith, room.props)) expression);
    }
  where
    expression : drop (r.place.at + length prop_key) text ≡ written e ++ 10 ∷ rest
    expression = behind text r.place.at prop_key (written e ++ 10 ∷ rest) (q ∙ line_append prop_key (written e) rest)

-- one more property line is read
stated_next : (text : List ℕ) (n : ℕ) (p : LineStart) (es : List Expr) (r : Progress) (e : Expr) (rest : List ℕ) → n ≤ 7 → Stated text p es r → PlaceArrays r → length es < 4
    → LegalExpr n false e → drop r.place.at text ≡ written_property e ++ rest
    → (next_property text n (length es) r ≡ Given (behind_property (length es) r e)) × Stated text p (es ++ e ∷ []) (behind_property (length es) r e)
unfolding next_property propertied following unless_refused written_property
stated_next text n p es r e rest b u room h l q =
    (rw (ap (state_line prop_key n) q ∙ (prop_reads n b).there e l rest), stated_more text p es r e rest u room h q)

-- What the reading of the first i property lines has found.
pub record Propertied (text : List ℕ) (n : ℕ) (p : LineStart) (i : ℕ) (r : Progress) : Type 0 where
  pub props : List Expr
  pub count : length props ≡ i
  pub legal : LegalEach n props
  pub stated : Stated text p props r

-- a line that is not refused is read
unrefused : (j : ℕ) (r : Progress) (l : Line ℕ) {q : Progress} → propertied j r l ≡ Given q → (v : ℕ) × (bytes : ℕ) × (l ≡ Read v bytes)
unfolding propertied following unless_refused
unrefused j r (Fault number) q = cc
unrefused j r (Read v bytes) q = (v, bytes, refl)

-- property lines that are read are written forms of legal expressions
pub properties_back : (text : List ℕ) (n : ℕ) (p : LineStart) → n ≤ 7 → (i : ℕ) → i ≤ 4 → (r : Progress) → properties_read text n (none_read p) i ≡ Given r
    → Propertied text n p i r
unfolding properties_read next_property written_property
properties_back text n p b zero h r q =
    record { props = []; count = refl; legal = λ j k. absurd (omega arith); stated = subst (Stated text p []) (one_given q) (stated_none text p) }
properties_back text n p b (suc i) h r q =
    let w = given_before (properties_read text n (none_read p) i) (next_property text n i) q in
    let before : Progress = w.0 in
    let found = properties_back text n p b i (omega arith) before w.1 in
    let es = found.props in
    let s = drop before.place.at text in
    let v = unrefused i before (state_line prop_key n s) w.2 in
    let a = (prop_reads n b).back s v.0 v.1 v.2 in
    let next = stated_next text n p es before a.0 a.2.0 b found.stated (given_of (properties_room text n p i) w.1) (omega (arith, found.count)) a.1 a.2.1 in
    let same : behind_property (length es) before a.0 ≡ r = one_given (sym next.0 ∙ ap (λ m. next_property text n m before) found.count ∙ w.2) in
    record {
      props = es ++ a.0 ∷ [];
      count = omega (arith, found.count, length-append es (a.0 ∷ []));
      legal = at_more (λ _ x. LegalExpr n false x) _ es a.0 found.legal a.1;
      stated = subst (Stated text p (es ++ a.0 ∷ [])) same next.1;
    }

-- The lines of the properties es are read from a place on.
abbrev pub ReadFrom : List ℕ → ℕ → LineStart → ℕ → List Expr → Type 0
ReadFrom text n p j es = (r : Progress) × (properties_read text n (none_read p) j ≡ Given r) × Stated text p es r

-- the first i of the properties that stand in the text, one after the other, are found
some_there : (text : List ℕ) (n : ℕ) (p : LineStart) (es : List Expr) (rest : List ℕ) → n ≤ 7 → length es ≤ 4 → LegalEach n es
    → drop p.at text ≡ flat_map written_property es ++ rest → (i : ℕ) → i ≤ length es → ReadFrom text n p i (take i es)
unfolding properties_read
some_there text n p es rest b c l q zero h = (none_read p, refl, stated_none text p)
some_there text n p es rest b c l q (suc i) h =
    let w = some_there text n p es rest b c l q i (omega arith) in
    let r : Progress = w.0 in
    let front = take i es in
    let e = property_at es i in
    let others = flat_map written_property (drop (suc i) es) in
    let count : length front ≡ i = length-take-le i es (omega arith) in
    let cut : drop p.at text ≡ flat_map written_property front ++ (written_property e ++ (others ++ rest)) =
    q ∙ ap (λ x. x ++ rest) (flat_map_at written_property es i _ h) ∙ append_assoc (flat_map written_property front) (written_property e ++ others) rest
    ∙ ap (λ x. flat_map written_property front ++ x) (append_assoc (written_property e) others rest) in
    let next =
    stated_next text n p front r e (others ++ rest) b w.2 (given_of (properties_room text n p i) w.1) (omega arith) (l i h)
    (ap (λ m. drop m text) w.2.place ∙ behind text p.at (flat_map written_property front) (written_property e ++ (others ++ rest)) cut) in (
      behind_property (length front) r e,
      given_next (next_property text n i) w.1 ∙ ap (λ m. next_property text n m r) (sym count) ∙ next.0,
      subst (λ x. Stated text p x (behind_property (length front) r e)) (sym (take-suc es i _ h)) next.1,
    )

-- the properties that stand in the text, one after the other, are found
pub properties_there : (text : List ℕ) (n : ℕ) (p : LineStart) (es : List Expr) (rest : List ℕ) → n ≤ 7 → length es ≤ 4 → LegalEach n es
    → drop p.at text ≡ flat_map written_property es ++ rest → ReadFrom text n p (length es) es
properties_there text n p es rest b c l q =
    subst (ReadFrom text n p (length es)) (take-length es) (some_there text n p es rest b c l q (length es) (omega arith))
