-- The lines of one kind, one after the other: one that is refused refuses them all, and what is read of the property lines and of the rule lines is what is
-- read of their parts. From the definitions of `Body`.
use Rattle.std.specs.Prelude.{ℕ, zero, suc, ◌+◌, ◌≤◌, ◌<◌, ◌≡◌, refl, List, take, set, drop, Result, Ok, Err}
use Rattle.std.proofs.Common.{◌∙◌, ap, sym, arith}
use Rattle.std.proofs.Math.Decide.{dec_lt}
use Rattle.refusals.specs.Answers.{Answer, RefusedBy, Given}
use Rattle.refusals.specs.declared.refusal.Refusal.{Refusal}
use Rattle.rule_lines.specs.declared.names.RuleParts.{RuleParts}
use Rattle.rule_lines.specs.RuleLines.{is_taken, rule_line}
use Rattle.lines.specs.Lines.{prop_key, state_line}
use Rattle.bodies.specs.declared.progress.LineStart.{LineStart}
use Rattle.bodies.specs.declared.progress.LineRead.{LineRead}
use Rattle.bodies.specs.declared.progress.Progress.{Progress}
use Rattle.bodies.specs.Body.{left, given_or, last_given, following, unless_refused, part_put, parts_read, property_part, properties_read, next_property, propertied, with_property, rule_part, rules_read, next_rule, ruled, with_rule}
use Rattle.bodies.specs.Laws.Answered.{one_given, refused_at, refused_next}

-- ---- what is kept of steps

last_is : {A : Type 0} (so_far : ℕ → Answer A) (r : A) (i : ℕ) → so_far 0 ≡ Given r → {a : A} → so_far i ≡ Given a → last_given so_far r i ≡ a
unfolding last_given
last_is so_far r zero z e = one_given (sym z ∙ e)
last_is so_far r (suc i) z e = rw e refl

-- steps that are refused change nothing
last_before : {A : Type 0} (so_far : ℕ → Answer A) (r : A) (i count : ℕ) → i ≤ count → ((k : ℕ) → i < k → k ≤ count → (number : ℕ) × (line : ℕ) × (so_far k ≡ RefusedBy number line))
    → last_given so_far r count ≡ last_given so_far r i
unfolding last_given
last_before so_far r i zero h f = let z : 0 ≡ i = omega arith in ap (last_given so_far r) z
last_before so_far r i (suc count) h f = go (dec_lt count i) (λ b. last_before so_far r i count b (λ k a c. f k a (omega arith)))
  where
    go : Dec (count < i) → (i ≤ count → last_given so_far r count ≡ last_given so_far r i) → last_given so_far r (suc count) ≡ last_given so_far r i
    go (yes b) g = let z : suc count ≡ i = omega arith in ap (last_given so_far r) z
    go (no b) g = let q = (f (suc count) (omega arith) (omega arith)).2 in rw q (g (omega arith))

-- ---- the lines of one kind

module _ {A : Type 0} (next : LineStart → List A → Answer (LineRead A)) where
  -- a line that is refused refuses them all
  pub part_refuses : (r q : LineStart × List A) (i count number line : ℕ) → i < count → parts_read next r i ≡ Given q → next q.0 (take i q.1) ≡ RefusedBy number line
      → parts_read next r count ≡ RefusedBy number line
  unfolding parts_read part_put
  part_refuses r q i count number line h e f = refused_at (parts_read next r) (part_put next) (λ i. refl) i count h e (refused_next _ f)

  -- and what was read before it is kept
  pub part_kept : (r q : LineStart × List A) (i count number line : ℕ) → i < count → parts_read next r i ≡ Given q → next q.0 (take i q.1) ≡ RefusedBy number line
      → q ≡ last_given (parts_read next r) r count
  unfolding parts_read
  part_kept r q i count number line h e f =
      sym (last_before (parts_read next r) r i count (omega arith) (λ k a b. (number, line, part_refuses r q i k number line a e f)) ∙ last_is (parts_read next r) r i refl e)

  -- where no line is refused, what they give is kept
  pub all_kept : (r q : LineStart × List A) (count : ℕ) → parts_read next r count ≡ Given q → q ≡ last_given (parts_read next r) r count
  unfolding parts_read
  all_kept r q count e = sym (last_is (parts_read next r) r count refl e)

-- ---- what is read of the parts, put into what is read of the body

abbrev with_properties : Progress → LineStart × List ℕ → Progress
with_properties r q = record { place = q.0; props = q.1; parts = r.parts }

put_property : (x : Answer (LineRead ℕ)) (r : Progress) (j : ℕ) (q : LineStart × List ℕ)
    → (unless_refused x λ h. Given (with_property (with_properties r q) j (q.0.at + h.value) h.place))
    ≡ (unless_refused (unless_refused (unless_refused {B = LineRead ℕ} x λ h. Given (record { value = q.0.at + h.value; place = h.place })) λ h. Given (h.place, set q.1 j h.value)) λ q. Given (with_properties r q))
unfolding unless_refused with_property
put_property (RefusedBy number line) r j q = refl
put_property (Given h) r j q = refl

properties_are : (text : List ℕ) (n : ℕ) (r : Progress) (j : ℕ)
    → properties_read text n r j ≡ (unless_refused (parts_read (property_part text n) (r.place, r.props) j) λ q. Given (with_properties r q))
unfolding properties_read parts_read unless_refused next_property propertied part_put property_part
properties_are text n r zero = refl
properties_are text n r (suc j) = ap (λ x. unless_refused x (next_property text n j)) (properties_are text n r j) ∙ go (parts_read (property_part text n) (r.place, r.props) j)
  where
    go : (x : Answer (LineStart × List ℕ))
        → (unless_refused (unless_refused x λ q. Given (with_properties r q)) (next_property text n j))
        ≡ (unless_refused (unless_refused x (part_put (property_part text n) j)) λ q. Given (with_properties r q))
    go (RefusedBy number line) = refl
    go (Given q) = put_property (following q.0 (state_line prop_key n (drop q.0.at text))) r j q

abbrev with_rules : Progress → LineStart × List RuleParts → Progress
with_rules r q = record { place = q.0; props = r.props; parts = q.1 }

put_rule : (x : Answer (LineRead RuleParts)) (r : Progress) (i : ℕ) (q : LineStart × List RuleParts)
    → (unless_refused x λ h. Given (with_rule (with_rules r q) i h.value h.place))
    ≡ (unless_refused (unless_refused x λ h. Given (h.place, set q.1 i h.value)) λ q. Given (with_rules r q))
unfolding unless_refused with_rule
put_rule (RefusedBy number line) r i q = refl
put_rule (Given h) r i q = refl

rules_are : (text : List ℕ) (n : ℕ) (r : Progress) (i : ℕ)
    → rules_read text n r i ≡ (unless_refused (parts_read (rule_part text n) (r.place, r.parts) i) λ q. Given (with_rules r q))
unfolding rules_read parts_read unless_refused next_rule ruled part_put rule_part
rules_are text n r zero = refl
rules_are text n r (suc i) = ap (λ x. unless_refused x (next_rule text n i)) (rules_are text n r i) ∙ go (parts_read (rule_part text n) (r.place, r.parts) i)
  where
    go : (x : Answer (LineStart × List RuleParts))
        → (unless_refused (unless_refused x λ q. Given (with_rules r q)) (next_rule text n i))
        ≡ (unless_refused (unless_refused x (part_put (rule_part text n) i)) λ q. Given (with_rules r q))
    go (RefusedBy number line) = refl
    go (Given q) = put_rule (following q.0 (rule_line n (is_taken text (take i q.1)) q.0.at (drop q.0.at text))) r i q

-- ---- what the functions leave

left_in : {A B C : Type 0} (f : A → B) (result : Result C Refusal) (a : A) (x : Answer A) → left result a ≡ x → left result (f a) ≡ (unless_refused x λ q. Given (f q))
unfolding unless_refused
left_in f (Ok done) a x q = rw (← q) refl
left_in f (Err refusal) a x q = rw (← q) refl

last_in : {A B : Type 0} (f : A → B) (so_far : ℕ → Answer A) (after : ℕ → Answer B) (a : A) → ((i : ℕ) → after i ≡ (unless_refused (so_far i) λ q. Given (f q)))
    → (count : ℕ) → f (last_given so_far a count) ≡ last_given after (f a) count
unfolding unless_refused last_given
last_in f so_far after a same zero = refl
last_in {A = A} f so_far after a same (suc i) = rw (same (suc i)) (go (so_far (suc i)) (last_in f so_far after a same i))
  where
    go : (x : Answer A) → f (last_given so_far a i) ≡ last_given after (f a) i
        → f (given_or x (last_given so_far a i)) ≡ given_or (unless_refused x λ q. Given (f q)) (last_given after (f a) i)
    go (RefusedBy number line) e = e
    go (Given q) e = refl

pub properties_left : {C : Type 0} (text : List ℕ) (n : ℕ) (r : Progress) (j : ℕ) (result : Result C Refusal) (p : LineStart) (props : List ℕ)
    → left result (p, props) ≡ parts_read (property_part text n) (r.place, r.props) j
    → left result (record { place = p; props = props; parts = r.parts }) ≡ properties_read text n r j
properties_left text n r j result p props q = left_in (with_properties r) result (p, props) _ q ∙ sym (properties_are text n r j)

pub properties_kept : (text : List ℕ) (n : ℕ) (r : Progress) (j : ℕ) (p : LineStart) (props : List ℕ)
    → (p, props) ≡ last_given (parts_read (property_part text n) (r.place, r.props)) (r.place, r.props) j
    → record { place = p; props = props; parts = r.parts } ≡ last_given (properties_read text n r) r j
properties_kept text n r j p props q =
    ap (with_properties r) q ∙ last_in (with_properties r) (parts_read (property_part text n) (r.place, r.props)) (properties_read text n r) (r.place, r.props) (properties_are text n r) j

pub rules_left : {C : Type 0} (text : List ℕ) (n : ℕ) (r : Progress) (i : ℕ) (result : Result C Refusal) (p : LineStart) (parts : List RuleParts)
    → left result (p, parts) ≡ parts_read (rule_part text n) (r.place, r.parts) i
    → left result (record { place = p; props = r.props; parts = parts }) ≡ rules_read text n r i
rules_left text n r i result p parts q = left_in (with_rules r) result (p, parts) _ q ∙ sym (rules_are text n r i)

pub rules_kept : (text : List ℕ) (n : ℕ) (r : Progress) (i : ℕ) (p : LineStart) (parts : List RuleParts)
    → (p, parts) ≡ last_given (parts_read (rule_part text n) (r.place, r.parts)) (r.place, r.parts) i
    → record { place = p; props = r.props; parts = parts } ≡ last_given (rules_read text n r) r i
rules_kept text n r i p parts q =
    ap (with_rules r) q ∙ last_in (with_rules r) (parts_read (rule_part text n) (r.place, r.parts)) (rules_read text n r) (r.place, r.parts) (rules_are text n r) i
