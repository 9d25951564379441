-- The numbers on one line: where a line is read by itself, the number that it is refused by is the first that fits there, and where it is read none
-- fits. From the definitions of `Refusals`, by the laws of lines.
use Prim.Native.Nat.{ℕ, zero, suc, ◌+◌, ◌-◌, ◌≤◌, ◌<◌}
use Rattle.std.specs.Prelude.{◌≡◌, refl, ◌≢◌, Bool, ◌&&◌, List, [], ◌∷◌, ◌++◌, length, take, drop}
use Rattle.std.proofs.Common.{sym, ap, ap₂, ◌∙◌, subst, subst₂, append_assoc, arith}
use Rattle.std.proofs.Math.Bool.{true, false, and-eq-true_iff}
use Rattle.std.proofs.lemmas.Bool.{false≢true}
use Rattle.std.proofs.Math.Seq.{take-append_seam, drop-append_seam}
use Rattle.sets.specs.Laws.Choice.{by_test}
use Rattle.lines.specs.declared.classes.Class.TheVariants.{InLine, InName}
use Rattle.rule_lines.specs.declared.names.RuleParts.{RuleParts}
use Rattle.lines.specs.Bytes.{belongs, prefix}
use Rattle.lines.specs.Decimal.{decimal}
use Rattle.lines.specs.Lines.{Line, Fault, Read, rule_key, line_length, is_line, value_of, says, unless_fault, count_in, counted, count_line, all, state_line}
use Rattle.rule_lines.specs.RuleLines.{is_named, parts_at, rule_line}
use Rattle.lines.specs.Written.{Within, line}
use Rattle.lines.specs.Laws.Bytes.{all_append, prefix_seam, all_prefix}
use Rattle.lines.specs.Laws.Decimal.{decimal_apart}
use Rattle.rule_lines.proofs.Laws.Numbers.{by_rule}
use Rattle.lines.proofs.Laws.Lines.{line_append, line_there, line_back, count_there, count_back}
use Rattle.rule_lines.proofs.Laws.RuleLines.{named_there, named_back, rule_key_in_line}
use Rattle.models.specs.Refusals.{after_lines, LineAt, HasValue, CountLine, vars_line, rules_line, first_rule_line, StateLine, init_line, prop_line, GivesCount, IsN, IsR, IsRuleLine, count_due, state_due, rule_due, ProperName, HasName, Expression, of_state, of_step, of_start, FitsAt, line_missing, count_wrong, name_improper, name_taken, length_wrong, byte_other, letter_beyond, letter_capital, not_one, bytes_follow}
use Rattle.models.specs.Laws.Grounds.{unbroken_in_line, in_line_unbroken, Unfit, unfit_length, unfit_byte, unfit_letter, unfit_capital, unfit_form, unfit_late, Tried, tried_none, tried_some, expression_tried}
use Rattle.models.specs.Laws.Parts.{UnfitParts, unfit_step, unfit_start, parts_late, parts_tried}

-- ---- the lines of a text

-- a text has one line of each number
line_is : {text l : List ℕ} {k : ℕ} → LineAt text k l → take (prefix InLine (after_lines (k - 1) text)) (after_lines (k - 1) text) ≡ l
unfolding belongs
line_is {l = l} a =
    let t : List ℕ = l ++ 10 ∷ a.rest in
    ap (λ x. take (prefix InLine x) x) a.stands ∙ ap (λ n. take n t) (prefix_seam InLine l 10 a.rest (unbroken_in_line l a.unbroken) refl) ∙ take-append_seam l (10 ∷ a.rest)

one_value : {text : List ℕ} {k : ℕ} (key v w : List ℕ) → HasValue text k key v → HasValue text k key w → v ≡ w
one_value key v w a b = sym (drop-append_seam key v) ∙ ap (drop (length key)) (sym (line_is a) ∙ line_is b) ∙ drop-append_seam key w

-- a line gives one count, and a rule line has one name
pub one_count : {text key : List ℕ} {k most m n : ℕ} → GivesCount text k key most m → GivesCount text k key most n → m ≡ n
one_count {key = key} {m = m} {n} g h = decimal_apart m n (one_value key (decimal m) (decimal n) g.value h.value)

pub one_name : {text name d name' e : List ℕ} {k : ℕ} → HasName text k name d → HasName text k name' e → name ≡ name'
one_name {name = name} {d} {name'} {e} a b =
    sym (named_there name d a.proper.size a.proper.bytes).name_is
    ∙ ap (λ v. take (prefix InName v) v) (one_value rule_key (name ++ 58 ∷ d) (name' ++ 58 ∷ e) a.value b.value)
    ∙ (named_there name' e b.proper.size b.proper.bytes).name_is

-- ---- the numbers by the kinds of lines

data OnCount (text : List ℕ) (k : ℕ) (key : List ℕ) (most : ℕ) : ℕ → Type 0 where
  count_1 : ((v : List ℕ) → ¬ HasValue text k key v) → OnCount text k key most 1
  count_2 : {v : List ℕ} → HasValue text k key v → ((n : ℕ) → Within 1 most n → v ≢ decimal n) → OnCount text k key most 2

data OnState (text : List ℕ) (k : ℕ) (key : List ℕ) : ℕ → Type 0 where
  state_1 : ((v : List ℕ) → ¬ HasValue text k key v) → OnState text k key 1
  state_5 : {e : List ℕ} {m : ℕ} → HasValue text k key e → Unfit text false e m → OnState text k key m

data OnRule (text : List ℕ) (k : ℕ) : ℕ → Type 0 where
  rule_1 : ((v : List ℕ) → ¬ HasValue text k rule_key v) → OnRule text k 1
  rule_3 : {v : List ℕ} → HasValue text k rule_key v → ((name e : List ℕ) → ProperName name → v ≢ name ++ 58 ∷ e) → OnRule text k 3
  rule_4 : {j : ℕ} {name d e : List ℕ} → j < k → HasName text j name d → HasName text k name e → OnRule text k 4
  rule_5 : {name e : List ℕ} {m : ℕ} → HasName text k name e → UnfitParts text e m → OnRule text k m

data OnLine (text : List ℕ) : (number line : ℕ) → Type 0 where
  on_count : {m k most : ℕ} {key : List ℕ} → CountLine k key most → OnCount text k key most m → OnLine text m k
  on_state : {m k : ℕ} {key : List ℕ} → StateLine text k key → OnState text k key m → OnLine text m k
  on_rule : {m k : ℕ} → IsRuleLine text k → OnRule text k m → OnLine text m k
  on_last : {r : ℕ} → IsR text r → after_lines (first_rule_line text + r - 1) text ≢ [] → OnLine text 9 (first_rule_line text + r)

on_expression : {text e : List ℕ} {m k : ℕ} {capitals : Bool} → Expression text k capitals e → Unfit text capitals e m → OnLine text m k
on_expression (of_state c h) u = on_state c (state_5 h u)
on_expression (of_step n p) u = on_rule n.rule (rule_5 n (unfit_step p u))
on_expression (of_start n p d) u = on_rule n.rule (rule_5 n (unfit_start p d u))

by_kind : {text : List ℕ} {m k : ℕ} → FitsAt text m k → OnLine text m k
by_kind (line_missing (count_due c) f) = on_count c (count_1 f)
by_kind (line_missing (state_due c) f) = on_state c (state_1 f)
by_kind (line_missing (rule_due r) f) = on_rule r (rule_1 f)
by_kind (count_wrong c h f) = on_count c (count_2 h f)
by_kind (name_improper r h f) = on_rule r (rule_3 h f)
by_kind (name_taken l d e) = on_rule e.rule (rule_4 l d e)
by_kind (length_wrong x f) = on_expression x (unfit_length f)
by_kind (byte_other x i f) = on_expression x (unfit_byte i f)
by_kind (letter_beyond x n i l) = on_expression x (unfit_letter n i l)
by_kind (letter_capital x i l) = on_expression x (unfit_capital refl i l)
by_kind (not_one x f) = on_expression x (unfit_form f)
by_kind (bytes_follow r f) = on_last r f

pub unfit_fits : {text e : List ℕ} {m k : ℕ} {capitals : Bool} → Expression text k capitals e → Unfit text capitals e m → FitsAt text m k
unfit_fits x (unfit_length f) = length_wrong x f
unfit_fits x (unfit_byte i f) = byte_other x i f
unfit_fits x (unfit_letter n i l) = letter_beyond x n i l
unfit_fits {text} {e} {k = k} x (unfit_capital c i l) = letter_capital (subst (λ t. Expression text k t e) c x) i l
unfit_fits x (unfit_form f) = not_one x f

parts_fit : {text name e : List ℕ} {m k : ℕ} → HasName text k name e → UnfitParts text e m → FitsAt text m k
parts_fit n (unfit_step p u) = unfit_fits (of_step n p) u
parts_fit n (unfit_start p d u) = unfit_fits (of_start n p d) u

-- where the kinds of lines stand
count_range : {k most : ℕ} {key : List ℕ} → CountLine k key most → Within 1 2 k
count_range vars_line = record { at_least = omega arith; at_most = omega arith }
count_range rules_line = record { at_least = omega arith; at_most = omega arith }

-- there is a property line
rules_behind : (text : List ℕ) → 5 ≤ first_rule_line text
unfolding first_rule_line
rules_behind text = omega arith

state_range : {text key : List ℕ} {k : ℕ} → StateLine text k key → (3 ≤ k) × (k < first_rule_line text)
state_range {text} init_line = (omega arith, omega (arith, rules_behind text))
state_range (prop_line a b) = (omega arith, b)

same_count : {k k' most most' : ℕ} {key key' : List ℕ} → CountLine k key most → CountLine k' key' most' → k ≡ k' → (key ≡ key') × (most ≡ most')
same_count vars_line vars_line e = (refl, refl)
same_count vars_line rules_line e = absurd (omega arith)
same_count rules_line vars_line e = absurd (omega arith)
same_count rules_line rules_line e = (refl, refl)

same_state : {text key key' : List ℕ} {k k' : ℕ} → StateLine text k key → StateLine text k' key' → k ≡ k' → key ≡ key'
same_state init_line init_line e = refl
same_state init_line (prop_line a b) e = absurd (omega arith)
same_state (prop_line a b) init_line e = absurd (omega arith)
same_state (prop_line a b) (prop_line c d) e = refl

count_only : {text key : List ℕ} {m k most : ℕ} → CountLine k key most → OnLine text m k → OnCount text k key most m
count_only {text} {m = m} {k} c (on_count d g) = let e = same_count d c refl in subst₂ (λ x y. OnCount text k x y m) e.0 e.1 g
count_only c (on_state d g) = absurd (omega (arith, (count_range c).at_most, (state_range d).0))
count_only {text} c (on_rule r g) = absurd (omega (arith, (count_range c).at_most, r.least, rules_behind text))
count_only {text} c (on_last r f) = absurd (omega (arith, (count_range c).at_most, rules_behind text))

state_only : {text key : List ℕ} {m k : ℕ} → StateLine text k key → OnLine text m k → OnState text k key m
state_only c (on_count d g) = absurd (omega (arith, (state_range c).0, (count_range d).at_most))
state_only {text} {m = m} {k} c (on_state d g) = subst (λ x. OnState text k x m) (same_state d c refl) g
state_only c (on_rule r g) = absurd (omega (arith, (state_range c).1, r.least))
state_only c (on_last r f) = absurd (omega (arith, (state_range c).1))

rule_only : {text : List ℕ} {m k : ℕ} → IsRuleLine text k → OnLine text m k → OnRule text k m
rule_only {text} c (on_count d g) = absurd (omega (arith, c.least, (count_range d).at_most, rules_behind text))
rule_only c (on_state d g) = absurd (omega (arith, c.least, (state_range d).1))
rule_only c (on_rule r g) = g
rule_only c (on_last r f) = absurd (omega (arith, c.most, one_count r c.count))

-- no number fits before line 1, and behind the rule lines only 9 does
pub fits_least : {text : List ℕ} {m k : ℕ} → FitsAt text m k → 1 ≤ k
fits_least f = go (by_kind f)
  where
    go : {text : List ℕ} {m k : ℕ} → OnLine text m k → 1 ≤ k
    go (on_count c g) = (count_range c).at_least
    go (on_state c g) = omega (arith, (state_range c).0)
    go {text} (on_rule r g) = omega (arith, r.least, rules_behind text)
    go {text} (on_last r f) = omega (arith, rules_behind text)

pub fits_behind : {text : List ℕ} {m k R : ℕ} → IsR text R → FitsAt text m k → first_rule_line text + R ≤ k
    → (m ≡ 9) × (after_lines (first_rule_line text + R - 1) text ≢ [])
fits_behind isR f h = go isR (by_kind f) h
  where
    go : {text : List ℕ} {m k R : ℕ} → IsR text R → OnLine text m k → first_rule_line text + R ≤ k
        → (m ≡ 9) × (after_lines (first_rule_line text + R - 1) text ≢ [])
    go {text} isR (on_count c g) h = absurd (omega (arith, (count_range c).at_most, rules_behind text))
    go isR (on_state c g) h = absurd (omega (arith, (state_range c).1))
    go isR (on_rule r g) h = absurd (omega (arith, r.most, one_count r.count isR))
    go {text} isR (on_last r f) h = (refl, subst (λ n. after_lines (first_rule_line text + n - 1) text ≢ []) (one_count r isR) f)

-- ---- the keys

pub count_key_lem : {k most : ℕ} {key : List ℕ} → CountLine k key most → all InLine key ≡ true
unfolding all prefix belongs
count_key_lem vars_line = refl
count_key_lem rules_line = refl

pub state_key : {text key : List ℕ} {k : ℕ} → StateLine text k key → all InLine key ≡ true
unfolding all prefix belongs
state_key init_line = refl
state_key (prop_line a b) = refl

-- ---- what is proved of a line

-- Line k, of the text s, is read as l: the first number that fits, or what it says and that no number fits.
pub data LineJudged (text : List ℕ) (k : ℕ) (s : List ℕ) (Says : ℕ → Type 0) : Line ℕ → Type 0 where
  line_refused : {number : ℕ} → FitsAt text number k → ((m : ℕ) → m < number → ¬ FitsAt text m k) → 1 ≤ number → LineJudged text k s Says (Fault number)
  line_passed : {v : ℕ} → Says v → ((m : ℕ) → ¬ FitsAt text m k) → LineJudged text k s Says (Read v (line_length s + 1))

-- The same of a rule line.
pub data RuleJudged (text : List ℕ) (k : ℕ) (s : List ℕ) : Line RuleParts → Type 0 where
  rule_refused : {number : ℕ} → FitsAt text number k → ((m : ℕ) → m < number → ¬ FitsAt text m k) → 1 ≤ number → RuleJudged text k s (Fault number)
  rule_passed : {parts : RuleParts} → ((m : ℕ) → ¬ FitsAt text m k) → RuleJudged text k s (Read parts (line_length s + 1))

-- The test tells the names of the rule lines before line k.
pub record TellsNames (text : List ℕ) (k : ℕ) (taken : List ℕ → Bool) : Type 0 where
  pub taken_there : (name : List ℕ) → taken name ≡ true → (j : ℕ) × (j < k) × ((d : List ℕ) × HasName text j name d)
  pub free_there : (name : List ℕ) → taken name ≡ false → (j : ℕ) (d : List ℕ) → j < k → ¬ HasName text j name d

-- the name that the reader finds in the rule line that s begins with, and what stands behind its `:`
abbrev pub name_found : List ℕ → List ℕ
name_found s = take (prefix InName (value_of rule_key s)) (value_of rule_key s)

abbrev pub parts_found : List ℕ → List ℕ
parts_found s = drop (prefix InName (value_of rule_key s) + 1) (value_of rule_key s)

name_there : (v : List ℕ) → is_named v ≡ true → ProperName (take (prefix InName v) v)
name_there v h = record { size = (named_back v h).length_is; bytes = all_prefix InName v }

-- line k begins the text s
module _ (text : List ℕ) (k : ℕ) (s : List ℕ) (begins : after_lines (k - 1) text ≡ s) where
  -- ---- its value

  pub has_value : (key : List ℕ) → all InLine key ≡ true → is_line key s ≡ true → HasValue text k key (value_of key s)
  has_value key in-line h =
      let b = line_back key in-line s h in
      let v : List ℕ = value_of key s in
      record {
        rest = b.0;
        stands = begins ∙ b.1 ∙ line_append key v b.0 ∙ sym (append_assoc key v (10 ∷ b.0));
        unbroken = in_line_unbroken (key ++ v) (all_append InLine key v ∙ ap₂ ◌&&◌ in-line b.2);
      }

  the_value : (key : List ℕ) → all InLine key ≡ true → {v : List ℕ} → HasValue text k key v → (is_line key s ≡ true) × (value_of key s ≡ v)
  the_value key in-line {v} h =
      let w : all InLine v ≡ true = ((and-eq-true_iff (all InLine key) (all InLine v)).0 (sym (all_append InLine key v) ∙ unbroken_in_line (key ++ v) h.unbroken)).1 in
      let t : s ≡ line key v ++ h.rest = sym begins ∙ h.stands ∙ append_assoc key v (10 ∷ h.rest) ∙ sym (line_append key v h.rest) in
      let b = line_there key in-line v h.rest w in
      (ap (is_line key) t ∙ b.is, ap (value_of key) t ∙ b.value_is)

  pub no_value : (key : List ℕ) → all InLine key ≡ true → is_line key s ≡ false → (v : List ℕ) → ¬ HasValue text k key v
  no_value key in-line f v h = false≢true (sym f ∙ (the_value key in-line h).0)

  pub gives_there : (key : List ℕ) (most n : ℕ) → all InLine key ≡ true → is_line key s ≡ true → count_in most (value_of key s) ≡ suc n → GivesCount text k key most (suc n)
  gives_there key most n in-line l q =
      let b = count_back most (value_of key s) n q in
      record { value = subst (HasValue text k key) b.1 (has_value key in-line l); range = record { at_least = omega arith; at_most = b.0 } }

  pub name_found_lem : IsRuleLine text k → is_line rule_key s ≡ true → is_named (value_of rule_key s) ≡ true → HasName text k (name_found s) (parts_found s)
  name_found_lem c l h = record {
    rule = c;
    proper = name_there (value_of rule_key s) h;
    value = subst (HasValue text k rule_key) (named_back (value_of rule_key s) h).text (has_value rule_key rule_key_in_line l);
  }

  pub name_fails : IsRuleLine text k → is_line rule_key s ≡ true → is_named (value_of rule_key s) ≡ false → FitsAt text 3 k
  name_fails c l h =
      name_improper c (has_value rule_key rule_key_in_line l) (λ name e proper q. false≢true (sym h ∙ ap is_named q ∙ (named_there name e proper.size proper.bytes).is))

  pub count_fails : (key : List ℕ) (most : ℕ) → CountLine k key most → is_line key s ≡ true → count_in most (value_of key s) ≡ 0 → FitsAt text 2 k
  count_fails key most c l q =
      count_wrong c (has_value key (count_key_lem c) l) (λ n w e. omega (arith, w.at_least, count_there most n (value_of key s) e w.at_most))

  -- ---- a count

  module _ (key : List ℕ) (most : ℕ) (c : CountLine k key most) where
    -- numbers whose tests the line has passed do not fit
    past_count : (number : ℕ) → (1 < number → is_line key s ≡ true) → (2 < number → (n : ℕ) × GivesCount text k key most n)
        → (m : ℕ) → m < number → ¬ FitsAt text m k
    past_count number one two m h f = go (count_only c (by_kind f)) h
      where
        go : {m : ℕ} → OnCount text k key most m → m < number → ⊥
        go (count_1 f) h = f (value_of key s) (has_value key (count_key_lem c) (one h))
        go (count_2 {v} q f) h = let g = two h in f g.0 g.1.range (one_value key v (decimal g.0) q g.1.value)

    pub count_judged : LineJudged text k s (GivesCount text k key most) (count_line key most s)
    unfolding count_line
    count_judged =
        by_test (LineJudged text k s (GivesCount text k key most)) (is_line key s) (λ l. go l (count_in most (value_of key s)) refl)
        (λ f. line_refused (line_missing (count_due c) (no_value key (count_key_lem c) f)) (past_count 1 (λ h. absurd (omega arith)) (λ h. absurd (omega arith))) (omega arith))
      where
        go : is_line key s ≡ true → (n : ℕ) → count_in most (value_of key s) ≡ n → LineJudged text k s (GivesCount text k key most) (counted n s)
        go l zero q = line_refused (count_fails key most c l q) (past_count 2 (λ _. l) (λ h. absurd (omega arith))) (omega arith)
        go l (suc n) q =
            let g = gives_there key most n (count_key_lem c) l q in
            line_passed g (λ m. past_count (suc m) (λ _. l) (λ _. (suc n, g)) m (omega arith))

  module _ (n : ℕ) (isN : IsN text n) where
    -- ---- `init` and `prop`

    module _ (key : List ℕ) (c : StateLine text k key) where
      past_state : (number : ℕ) → (1 < number → is_line key s ≡ true) → ((m : ℕ) → m < number → ¬ Unfit text false (value_of key s) m)
          → (m : ℕ) → m < number → ¬ FitsAt text m k
      past_state number one fit m h f = go (state_only c (by_kind f)) h
        where
          go : {m : ℕ} → OnState text k key m → m < number → ⊥
          go (state_1 f) h = f (value_of key s) (has_value key (state_key c) (one h))
          go (state_5 {m = m} q u) h = fit m h (subst (λ e. Unfit text false e m) (sym (the_value key (state_key c) q).1) u)

      pub state_judged : LineJudged text k s (λ _. Unit) (state_line key n s)
      unfolding state_line
      state_judged =
          by_test (LineJudged text k s (λ _. Unit)) (is_line key s)
          (λ l. go l (expression_tried text n isN (λ m q. one_count q isN) false (value_of key s)))
          (λ f. line_refused (line_missing (state_due c) (no_value key (state_key c) f)) (past_state 1 (λ h. absurd (omega arith)) (λ m h u. unfit_late (omega arith) u h)) (omega arith))
        where
          go : is_line key s ≡ true → {number : ℕ} → Tried (Unfit text false (value_of key s)) number
              → LineJudged text k s (λ _. Unit) (unless_fault Fault number (says (length key) s))
          go l (tried_none f) = line_passed tt (λ m. past_state (suc m) (λ _. l) (λ j _. f j) m (omega arith))
          go l (tried_some {number} u f) = line_refused (unfit_fits (of_state c (has_value key (state_key c) l)) u) (past_state (suc number) (λ _. l) f) (omega arith)

    -- ---- a rule

    module _ (c : IsRuleLine text k) (taken : List ℕ → Bool) (tells : TellsNames text k taken) where
      the_parts : {name e : List ℕ} → HasName text k name e → parts_found s ≡ e
      the_parts {name} {e} a =
          ap (λ v. drop (prefix InName v + 1) v) (the_value rule_key rule_key_in_line a.value).1
          ∙ (named_there name e a.proper.size a.proper.bytes).parts_are

      past_rule : (number : ℕ) → (1 < number → is_line rule_key s ≡ true) → (3 < number → is_named (value_of rule_key s) ≡ true)
          → (4 < number → taken (name_found s) ≡ false) → ((m : ℕ) → m < number → ¬ UnfitParts text (parts_found s) m)
          → (m : ℕ) → m < number → ¬ FitsAt text m k
      past_rule number one three four fit m h f = go (rule_only c (by_kind f)) h
        where
          go : {m : ℕ} → OnRule text k m → m < number → ⊥
          go (rule_1 f) h = f (value_of rule_key s) (has_value rule_key rule_key_in_line (one h))
          go (rule_3 q f) h =
              f (name_found s) (parts_found s) (name_there (value_of rule_key s) (three h))
              (sym (the_value rule_key rule_key_in_line q).1 ∙ (named_back (value_of rule_key s) (three h)).text)
          go (rule_4 {j} {d = d} l a b) h =
              tells.free_there (name_found s) (four h) j d l
              (subst (λ x. HasName text j x d) (one_name b (name_found_lem c (one (omega arith)) (three (omega arith)))) a)
          go (rule_5 {m = m} a u) h = fit m h (subst (λ e. UnfitParts text e m) (sym (the_parts a)) u)

      pub rule_judged : (at : ℕ) → RuleJudged text k s (rule_line n taken at s)
      unfolding unless_fault
      rule_judged at =
          by_rule n taken at s (RuleJudged text k s)
          (λ l.
          rule_refused (line_missing (rule_due c) (no_value rule_key rule_key_in_line l))
          (past_rule 1 (λ k. absurd (omega arith)) (λ k. absurd (omega arith)) (λ k. absurd (omega arith)) (λ m k u. parts_late (omega arith) u k)) (omega arith))
          (λ l h.
          rule_refused (name_fails c l h)
          (past_rule 3 (λ _. l) (λ k. absurd (omega arith)) (λ k. absurd (omega arith)) (λ m k u. parts_late (omega arith) u k)) (omega arith))
          (λ l h t.
          let w = tells.taken_there (name_found s) t in
          rule_refused (name_taken w.1 w.2.1 (name_found_lem c l h)) (past_rule 4 (λ _. l) (λ _. h) (λ k. absurd (omega arith)) (λ m k u. parts_late (omega arith) u k)) (omega arith))
          (λ l h t. go l h t (parts_tried text n isN (λ m q. one_count q isN) (parts_found s)))
        where
          go : is_line rule_key s ≡ true → is_named (value_of rule_key s) ≡ true → taken (name_found s) ≡ false → {number : ℕ} → Tried (UnfitParts text (parts_found s)) number
              → RuleJudged text k s (unless_fault Fault number (Read (parts_at at (prefix InName (value_of rule_key s)) (parts_found s)) (line_length s + 1)))
          go l h t (tried_none f) = rule_passed (λ m. past_rule (suc m) (λ _. l) (λ _. h) (λ _. t) (λ j _. f j) m (omega arith))
          go l h t (tried_some {number} u f) =
              rule_refused (parts_fit (name_found_lem c l h) u) (past_rule (suc number) (λ _. l) (λ _. h) (λ _. t) f) (omega arith)
