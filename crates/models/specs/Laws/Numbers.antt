-- The numbers that fit at a line, computed: each number in the list of a line fits there. Where lines 1 and 2 give no N and R, the lists of the
-- lines behind them are empty. From the tests of the reader, each tried by itself, and the laws of single lines.
use Prim.Native.Nat.{ℕ, zero, suc, ◌+◌, ◌-◌, ◌≤◌, ◌<◌}
use Rattle.std.specs.Prelude.{◌≡◌, refl, Bool, cond, not, ◌&&◌, ◌||◌}
use Rattle.std.proofs.Common.{sym, ◌∙◌, ⊎_elim}
use Rattle.std.proofs.Math.Path.{ap, subst}
use Rattle.std.proofs.Math.Bool.{true, false, and-eq-true_iff}
use Rattle.std.proofs.lemmas.Bool.{false≢true}
use mathlib.Core.List.Memᴰ
use mathlib.Core.List.{List, [], ◌∷◌, ◌++◌, Memᴰ}
use native.Mathlib.Omega.{arith}
use borrow.Author.Tests.{eqb-true, eqb-false, leb-true, leb-false, ltb-true, not-false}
use Rattle.std.proofs.Math.Dec.{eqb, leb, ltb}
use Rattle.std.proofs.Math.ListN.{length}
use Rattle.sets.specs.Joint.{Each}
use Rattle.sets.specs.Laws.Choice.{by_test}
use Rattle.lines.specs.declared.classes.Class.TheVariants.{InExpression, Allowed}
use Rattle.slices.specs.Same.{same}
use Rattle.lines.specs.Lines.{vars_key, rules_key, init_key, prop_key, rule_key, is_line, value_of, count_in, all, is_one, fault_of}
use Rattle.rule_lines.specs.RuleLines.{is_named, step_length}
use Rattle.slices.specs.Laws.Same.{same_is}
use Rattle.rule_lines.proofs.Laws.RuleLines.{rule_key_in_line}
use Rattle.models.specs.Refusals.{after_lines, CountLine, vars_line, rules_line, first_rule_line, StateLine, init_line, prop_line, GivesCount, IsN, IsR, IsRuleLine, count_due, state_due, rule_due, HasName, Expression, of_state, of_step, of_start, FitsAt, line_missing, name_taken, bytes_follow}
use Rattle.models.specs.Laws.Grounds.{length_fails, byte_fails, letter_fails, form_fails}
use Rattle.models.specs.Laws.Parts.{step_found, has_start, start_found, both_found, step_found_lem, passed_there}
use Rattle.models.specs.Laws.Fitting.{unfit_fits, count_key_lem, state_key, name_found, parts_found, has_value, no_value, gives_there, count_fails, name_found_lem, name_fails}

-- ---- lists of numbers

-- the number, unless its test is passed
unfoldable pub unless : Bool → ℕ → List ℕ
unless true number = []
unless false number = number ∷ []

module _ (P : ℕ → Type 0) where
  each_none : Each P []
  each_none m i = absurd (Memᴰ.not-nil i)

  each_one : (number : ℕ) → P number → Each P (number ∷ [])
  each_one number p m i = subst P (sym (Memᴰ.eq_of_singleton i)) p

  each_unless : (t : Bool) (number : ℕ) → (t ≡ false → P number) → Each P (unless t number)
  unfolding unless
  each_unless true number f = each_none
  each_unless false number f = each_one number (f refl)

  each_joined : (s t : List ℕ) → Each P s → Each P t → Each P (s ++ t)
  each_joined s t f g m i = ⊎_elim (f m) (g m) (Memᴰ.append_cases s i)

-- ---- the numbers at a line

-- 5 to 8, each tried by itself
unfoldable pub expression_numbers : ℕ → Bool → List ℕ → List ℕ
unfolding unless all is_one
expression_numbers n capitals e =
    unless (leb 1 (length e) && leb (length e) 64) 5 ++ (unless (all InExpression e) 6 ++ (unless (all (Allowed n capitals) e) 7 ++ unless (is_one e) 8))

unfoldable pub count_numbers : List ℕ → ℕ → List ℕ → List ℕ
unfolding unless is_line value_of count_in
count_numbers key most s = cond (is_line key s) (unless (leb 1 (count_in most (value_of key s))) 2) (1 ∷ [])

unfoldable pub state_numbers : List ℕ → ℕ → List ℕ → List ℕ
unfolding expression_numbers is_line value_of
state_numbers key n s = cond (is_line key s) (expression_numbers n false (value_of key s)) (1 ∷ [])

-- one of the first i rule lines has this name, where the first of them has the number `first`
unfoldable pub name_among : List ℕ → ℕ → ℕ → List ℕ → Bool
unfolding after_lines is_line value_of is_named same
name_among text first zero name = false
name_among text first (suc j) name =
    let s = after_lines (first + j - 1) text in
    name_among text first j name || (is_line rule_key s && (is_named (value_of rule_key s) && same (name_found s) name))

-- those of the step part, and after this has passed those of the start part
unfoldable pub part_numbers : ℕ → List ℕ → List ℕ
unfolding expression_numbers step_length fault_of
part_numbers n e =
    expression_numbers n true (step_found e) ++ cond (has_start e && eqb (fault_of n true (step_found e)) 0) (expression_numbers n false (start_found e)) []

unfoldable pub rule_numbers : List ℕ → ℕ → ℕ → ℕ → List ℕ → List ℕ
unfolding name_among part_numbers unless is_line value_of is_named
rule_numbers text first n i s =
    cond (is_line rule_key s)
    (cond (is_named (value_of rule_key s))
    (unless (not (name_among text first i (name_found s))) 4 ++ part_numbers n (parts_found s))
    (3 ∷ []))
    (1 ∷ [])

-- the count that line k gives, 0 if none
unfoldable pub count_at : List ℕ → ℕ → List ℕ → ℕ → ℕ
unfolding after_lines is_line value_of count_in
count_at text k key most = let s = after_lines (k - 1) text in cond (is_line key s) (count_in most (value_of key s)) 0

unfoldable pub later_numbers : List ℕ → ℕ → ℕ → ℕ → List ℕ → List ℕ
unfolding first_rule_line state_numbers rule_numbers unless
later_numbers text n r k s =
    let first = first_rule_line text in
    cond (eqb k 3) (state_numbers init_key n s)
    (cond (leb 4 k && ltb k first) (state_numbers prop_key n s)
    (cond (leb first k && ltb k (first + r)) (rule_numbers text first n (k - first) s)
    (cond (eqb k (first + r)) (unless (eqb (length s) 0) 9)
    [])))

unfoldable pub numbers_on : List ℕ → ℕ → List ℕ
unfolding after_lines count_numbers count_at later_numbers
numbers_on text k =
    let s = after_lines (k - 1) text in
    let n = count_at text 1 vars_key 7 in
    let r = count_at text 2 rules_key 16 in
    cond (eqb k 1) (count_numbers vars_key 7 s)
    (cond (eqb k 2) (count_numbers rules_key 16 s)
    (cond (leb 1 n && leb 1 r) (later_numbers text n r k s)
    []))

-- ---- each of them fits

count_given : (text : List ℕ) (k : ℕ) (key : List ℕ) (most : ℕ) → CountLine k key most → leb 1 (count_at text k key most) ≡ true → GivesCount text k key most (count_at text k key most)
unfolding count_at
count_given text k key most c h = go (is_line key s) refl (count_in most (value_of key s)) refl (leb-true 1 _ h)
  where
    s : List ℕ
    s = after_lines (k - 1) text

    go : (t : Bool) → is_line key s ≡ t → (n : ℕ) → count_in most (value_of key s) ≡ n → 1 ≤ cond t n 0 → GivesCount text k key most (cond t n 0)
    go true l zero q b = absurd (omega arith)
    go true l (suc n) q b = gives_there text k s refl key most n (count_key_lem c) l q
    go false l zero q b = absurd (omega arith)
    go false l (suc n) q b = absurd (omega arith)

-- one of the first i rule lines has this name
abbrev NamedAmong : List ℕ → List ℕ → ℕ → Type 0
NamedAmong text name i = (j : ℕ) × (j < i) × ((e : List ℕ) × HasName text (first_rule_line text + j) name e)

module _ (text : List ℕ) (r : ℕ) (isR : IsR text r) (name : List ℕ) where
  name_among_lem : (i : ℕ) → i ≤ r → name_among text (first_rule_line text) i name ≡ true → NamedAmong text name i
  unfolding name_among
  name_among_lem zero b t = absurd (false≢true t)
  name_among_lem (suc j) b t = go (name_among text (first_rule_line text) j name) (name_among_lem j (omega arith)) t
    where
      k : ℕ
      k = first_rule_line text + j

      s : List ℕ
      s = after_lines (k - 1) text

      last : Bool
      last = is_line rule_key s && (is_named (value_of rule_key s) && same (name_found s) name)

      go : (b : Bool) → (b ≡ true → NamedAmong text name j) → (b || last) ≡ true → NamedAmong text name (suc j)
      go true f t = let w = f refl in (w.0, omega (arith, w.1), w.2)
      go false f t =
          let l = (and-eq-true_iff (is_line rule_key s) (is_named (value_of rule_key s) && same (name_found s) name)).0 t in
          let n = (and-eq-true_iff (is_named (value_of rule_key s)) (same (name_found s) name)).0 l.1 in
          let rule : IsRuleLine text k = record { R = r; count = isR; least = omega arith; most = omega arith } in
          (j, omega arith, (parts_found s, subst (λ x. HasName text k x (parts_found s)) (same_is (name_found s) name n.1) (name_found_lem text k s refl rule l.0 n.0)))

-- the number fits at line k
abbrev At : List ℕ → ℕ → ℕ → Type 0
At text k m = FitsAt text m k

module _ (text : List ℕ) (k : ℕ) (s : List ℕ) (begins : after_lines (k - 1) text ≡ s) where
  each_count : (key : List ℕ) (most : ℕ) → CountLine k key most → Each (At text k) (count_numbers key most s)
  unfolding count_numbers
  each_count key most c =
      by_test (Each (At text k)) (is_line key s)
      (λ l. each_unless (At text k) (leb 1 (count_in most (value_of key s))) 2 (λ h.
      count_fails text k s begins key most c l (omega (arith, leb-false 1 (count_in most (value_of key s)) h))))
      (λ f. each_one (At text k) 1 (line_missing (count_due c) (no_value text k s begins key (count_key_lem c) f)))

  module _ (n : ℕ) (isN : IsN text n) where
    each_expression : (capitals : Bool) (e : List ℕ) → Expression text k capitals e → Each (At text k) (expression_numbers n capitals e)
    unfolding expression_numbers
    each_expression capitals e x =
        each_joined (At text k) (unless (leb 1 (length e) && leb (length e) 64) 5) _ (each_unless (At text k) _ 5 (λ h. unfit_fits x (length_fails text capitals e h)))
        (each_joined (At text k) (unless (all InExpression e) 6) _ (each_unless (At text k) _ 6 (λ h. unfit_fits x (byte_fails text capitals e h)))
        (each_joined (At text k) (unless (all (Allowed n capitals) e) 7) _ (each_unless (At text k) _ 7 (λ h. unfit_fits x (letter_fails text capitals e n isN h)))
        (each_unless (At text k) (is_one e) 8 (λ h. unfit_fits x (form_fails text capitals e h)))))

    each_state : (key : List ℕ) → StateLine text k key → Each (At text k) (state_numbers key n s)
    unfolding state_numbers
    each_state key c =
        by_test (Each (At text k)) (is_line key s)
        (λ l. each_expression false (value_of key s) (of_state c (has_value text k s begins key (state_key c) l)))
        (λ f. each_one (At text k) 1 (line_missing (state_due c) (no_value text k s begins key (state_key c) f)))

    each_part : {name : List ℕ} (e : List ℕ) → HasName text k name e → Each (At text k) (part_numbers n e)
    unfolding part_numbers
    each_part e a =
        each_joined (At text k) (expression_numbers n true (step_found e)) _ (each_expression true (step_found e) (of_step a (step_found_lem e).1))
        (by_test (Each (At text k)) (has_start e && eqb (fault_of n true (step_found e)) 0)
        (λ h.
        let b = (and-eq-true_iff (has_start e) (eqb (fault_of n true (step_found e)) 0)).0 h in
        each_expression false (start_found e) (of_start a (both_found e b.0) (passed_there text n isN (eqb-true _ 0 b.1))))
        (λ _. each_none (At text k)))

    each_rule : (i : ℕ) → k ≡ first_rule_line text + i → IsRuleLine text k → Each (At text k) (rule_numbers text (first_rule_line text) n i s)
    unfolding rule_numbers
    each_rule i at c =
        by_test (Each (At text k)) (is_line rule_key s) (λ l.
        by_test (Each (At text k)) (is_named (value_of rule_key s)) (λ h.
        each_joined (At text k) (unless (not (name_among text (first_rule_line text) i (name_found s))) 4) (part_numbers n (parts_found s))
        (each_unless (At text k) _ 4 (λ t.
        let w = name_among_lem text c.R c.count (name_found s) i (omega (arith, c.most)) (not-false (name_among text (first_rule_line text) i (name_found s)) t) in
        name_taken (omega (arith, w.1)) w.2.1 (name_found_lem text k s begins c l h)))
        (each_part (parts_found s) (name_found_lem text k s begins c l h)))
        (λ h. each_one (At text k) 3 (name_fails text k s begins c l h)))
        (λ f. each_one (At text k) 1 (line_missing (rule_due c) (no_value text k s begins rule_key rule_key_in_line f)))

    each_later : (r : ℕ) → IsR text r → Each (At text k) (later_numbers text n r k s)
    unfolding later_numbers
    each_later r isR =
        by_test (Each (At text k)) (eqb k 3) (λ e. each_state init_key (subst (λ x. StateLine text x init_key) (sym (eqb-true k 3 e)) init_line)) λ _.
        by_test (Each (At text k)) (leb 4 k && ltb k first)
        (λ e.
        let b = (and-eq-true_iff (leb 4 k) (ltb k first)).0 e in
        each_state prop_key (prop_line (leb-true 4 k b.0) (ltb-true k first b.1)))
        λ _.
        by_test (Each (At text k)) (leb first k && ltb k (first + r))
        (λ e.
        let b = (and-eq-true_iff (leb first k) (ltb k (first + r))).0 e in
        let low : first ≤ k = leb-true first k b.0 in
        each_rule (k - first) (omega arith) (record { R = r; count = isR; least = low; most = ltb-true k (first + r) b.1 }))
        λ _.
        by_test (Each (At text k)) (eqb k (first + r))
        (λ e. each_unless (At text k) (eqb (length s) 0) 9 (λ h.
        let at : k ≡ first + r = eqb-true k (first + r) e in
        let before : first + r - 1 ≡ k - 1 = omega arith in
        subst (FitsAt text 9) (sym at) (bytes_follow isR (λ q. eqb-false (length s) 0 h (ap length (sym begins ∙ ap (λ x. after_lines x text) (sym before) ∙ q))))))
        λ _. each_none (At text k)
      where
        first : ℕ
        first = first_rule_line text

-- each number that is computed for a line fits there
pub numbers_fit : (text : List ℕ) (k m : ℕ) → Memᴰ m (numbers_on text k) → FitsAt text m k
unfolding numbers_on
numbers_fit text k =
    by_test (Each (At text k)) (eqb k 1) (λ e. each_count text k s refl vars_key 7 (subst (λ x. CountLine x vars_key 7) (sym (eqb-true k 1 e)) vars_line)) λ _.
    by_test (Each (At text k)) (eqb k 2) (λ e. each_count text k s refl rules_key 16 (subst (λ x. CountLine x rules_key 16) (sym (eqb-true k 2 e)) rules_line)) λ _.
    by_test (Each (At text k)) (leb 1 n && leb 1 r)
    (λ e.
    let b = (and-eq-true_iff (leb 1 n) (leb 1 r)).0 e in
    each_later text k s refl n (count_given text 1 vars_key 7 vars_line b.0) r (count_given text 2 rules_key 16 rules_line b.1))
    λ _. each_none (At text k)
  where
    s : List ℕ
    s = after_lines (k - 1) text

    n : ℕ
    n = count_at text 1 vars_key 7

    r : ℕ
    r = count_at text 2 rules_key 16
