-- The grounds 5 to 8, of an expression: the reader's number is the first of them that fits, and 0 where none does.
-- From the definitions of `Refusals`, by the laws of bytes, of letters and of reading an expression.
use Rattle.std.specs.Prelude.{ℕ, zero, suc, ◌+◌, ◌-◌, ◌≤◌, ◌<◌, ◌≡◌, refl, ◌≢◌, ◌⊎◌, Bool, true, false, not, ◌&&◌, eqb, leb, ltb, length, get_or, drop}
use Rattle.std.proofs.Common.{sym, ap, ◌∙◌, subst, inl, inr, ⊎_elim, arith, eq-eqb, eqb-true, le-leb, leb-true, le-ltb, ltb-false, length-drop, get_or-drop}
use Rattle.std.proofs.Math.Bool.{and-false, and-eq-true_iff}
use Rattle.std.proofs.lemmas.Bool.{false≢true, not-false}
use mathlib.Core.List.Memᴰ
use mathlib.Core.List.{List, [], ◌∷◌, ◌++◌, Memᴰ}
use Rattle.sets.specs.Tabulated.{tabulate}
use Rattle.sets.specs.Laws.Tabulated.{length_tabulate, get_d_tabulate}
use Rattle.exprs.specs.declared.token.Token.{Token}
use Rattle.exprs.specs.declared.token.Token.TheVariants.{Constant, Now, Next, Not, And, Or, Implies, Alike, Other}
use Rattle.exprs.specs.Expr.{Expr, written, Letters}
use Rattle.exprs.specs.Token.{token_of}
use Rattle.exprs.specs.Laws.Reading.{Spelt, spelt, back_now, back_next}
use Rattle.lines.specs.declared.classes.Class.{Class}
use Rattle.lines.specs.declared.classes.Class.TheVariants.{InLine, InPart, InExpression, Allowed}
use Rattle.lines.specs.Bytes.{bytes, is_token, allowed, belongs, prefix}
use Rattle.lines.specs.Lines.{all, is_one, fault_of}
use Rattle.lines.specs.Written.{Within}
use Rattle.lines.specs.Laws.Bytes.{all_nil, all_parts, all_more}
use Rattle.lines.proofs.Laws.Numbers.{by_expression}
use Rattle.lines.proofs.Laws.Expressions.{one_there, one_back}
use Rattle.models.specs.Refusals.{IsN, small_letters, capital_letters, expression_bytes}

-- ---- members of a list

mem_at : (l : List ℕ) (j : ℕ) → j < length l → Memᴰ (get_or l j 0) l
mem_at [] j h = absurd (omega arith)
mem_at (x ∷ l) zero h = Memᴰ.head refl
mem_at (x ∷ l) (suc j) h = Memᴰ.tail (mem_at l j (omega arith))

at_mem : {b : ℕ} {l : List ℕ} → Memᴰ b l → (j : ℕ) × (j < length l) × (get_or l j 0 ≡ b)
at_mem (Memᴰ.head e) = (0, omega arith, sym e)
at_mem (Memᴰ.tail m) = let p = at_mem m in (suc p.0, omega (arith, p.1), p.2)

all_each : (c : Class) {b : ℕ} {e : List ℕ} → all c e ≡ true → Memᴰ b e → belongs c b ≡ true
all_each c h (Memᴰ.head {x} {xs} q) = ap (belongs c) q ∙ (all_parts c x xs h).0
all_each c h (Memᴰ.tail {x} {xs} m) = all_each c (all_parts c x xs h).1 m

-- a byte of e is outside the class
abbrev Outside : Class → List ℕ → Type 0
Outside c e = (b : ℕ) × Memᴰ b e × (belongs c b ≡ false)

each : (c : Class) (e : List ℕ) → (all c e ≡ true) ⊎ Outside c e
each c [] = inl (all_nil c)
each c (x ∷ e) = go (belongs c x) refl (each c e)
  where
    go : (t : Bool) → belongs c x ≡ t → (all c e ≡ true) ⊎ Outside c e → (all c (x ∷ e) ≡ true) ⊎ Outside c (x ∷ e)
    go false q r = inr (x, Memᴰ.head refl, q)
    go true q (inl a) = inl (all_more c x e q a)
    go true q (inr o) = inr (o.0, Memᴰ.tail o.1, o.2)

some_outside : (c : Class) (e : List ℕ) → all c e ≡ false → Outside c e
some_outside c e h = ⊎_elim (λ a. absurd (false≢true (sym h ∙ a))) (λ o. o) (each c e)

-- the class of all other bytes than x holds the texts without x, and those alone
module _ (x : ℕ) (others : Class) (is : (b : ℕ) → belongs others b ≡ not (eqb b x)) (l : List ℕ) where
  lacking : ¬ Memᴰ x l → all others l ≡ true
  lacking h =
      ⊎_elim (λ a. a) (λ o. absurd (h (Memᴰ.cast (sym (eqb-true o.0 x (not-false (eqb o.0 x) (sym (is o.0) ∙ o.2)))) o.1))) (each others l)

  lacks : all others l ≡ true → ¬ Memᴰ x l
  lacks a m = false≢true (sym (is x ∙ ap not (eq-eqb x x refl)) ∙ all_each others a m)

-- a text without byte 10 is within a line, and one without `:` within a part of a rule
pub unbroken_in_line : (l : List ℕ) → ¬ Memᴰ 10 l → all InLine l ≡ true
unfolding belongs
unbroken_in_line = lacking 10 InLine (λ b. refl)

pub in_line_unbroken : (l : List ℕ) → all InLine l ≡ true → ¬ Memᴰ 10 l
unfolding belongs
in_line_unbroken = lacks 10 InLine (λ b. refl)

pub undivided_in_part : (l : List ℕ) → ¬ Memᴰ 58 l → all InPart l ≡ true
unfolding belongs
undivided_in_part = lacking 58 InPart (λ b. refl)

pub in_part_undivided : (l : List ℕ) → all InPart l ≡ true → ¬ Memᴰ 58 l
unfolding belongs
in_part_undivided = lacks 58 InPart (λ b. refl)

-- ---- the letters

-- l are the seven letters from the byte f on
module _ (f : ℕ) (l : List ℕ) (is : l ≡ tabulate 7 (λ j. f + j)) (n : ℕ) where
  seven : length l ≡ 7
  seven = ap length is ∙ length_tabulate 7 (λ j. f + j)

  letter_at : (i : ℕ) → i < 7 → get_or l i 0 ≡ f + i
  letter_at i h = ap (λ x. get_or x i 0) is ∙ get_d_tabulate 7 (λ j. f + j) 0 i h

  letter_there : (i : ℕ) → i < 7 → n ≤ i → Memᴰ (f + i) (drop n l)
  letter_there i h k =
      let place : n + (i - n) ≡ i = omega arith in
      let at : get_or (drop n l) (i - n) 0 ≡ f + i = get_or-drop n l (i - n) 0 ∙ ap (λ j. get_or l j 0) place ∙ letter_at i h in
      Memᴰ.cast (sym at) (mem_at (drop n l) (i - n) (omega (arith, length-drop n l, seven)))

  letter_back : {b : ℕ} → Memᴰ b (drop n l) → (i : ℕ) × (i < 7) × (n ≤ i) × (b ≡ f + i)
  letter_back m =
      let p = at_mem m in
      let within : n + p.0 < 7 = omega (arith, p.1, length-drop n l, seven) in
      (n + p.0, within, omega arith, sym p.2 ∙ get_or-drop n l p.0 0 ∙ letter_at (n + p.0) within)

small_is : small_letters ≡ tabulate 7 (λ j. 97 + j)
unfolding tabulate
small_is = refl

capital_is : capital_letters ≡ tabulate 7 (λ j. 65 + j)
unfolding tabulate
capital_is = refl

-- ---- the bytes of expressions

both_false : (c t : Bool) → (c && t) ≡ false → (c ≡ false) ⊎ (t ≡ false)
both_false false t h = inl refl
both_false true t h = inr h

-- the bytes that belong to expressions are those listed
is_listed : (b : ℕ) → belongs InExpression b ≡ true → Memᴰ b expression_bytes
unfolding belongs Spelt
is_listed b h = go (token_of b) (spelt b) h
  where
    go : (t : Token) → Spelt t b → is_token t ≡ true → Memᴰ b expression_bytes
    go (Constant false) p h = Memᴰ.cast p (mem_at expression_bytes 0 (omega arith))
    go (Constant true) p h = Memᴰ.cast p (mem_at expression_bytes 1 (omega arith))
    go Not p h = Memᴰ.cast p (mem_at expression_bytes 2 (omega arith))
    go And p h = Memᴰ.cast p (mem_at expression_bytes 3 (omega arith))
    go Or p h = Memᴰ.cast p (mem_at expression_bytes 4 (omega arith))
    go Implies p h = Memᴰ.cast p (mem_at expression_bytes 5 (omega arith))
    go Alike p h = Memᴰ.cast p (mem_at expression_bytes 6 (omega arith))
    go (Now i) p h =
        Memᴰ.cast p.1 (Memᴰ.append_left capital_letters (Memᴰ.append_right (bytes "01!&|>=") (letter_there 97 small_letters small_is 0 i p.0 (omega arith))))
    go (Next i) p h = Memᴰ.cast p.1 (Memᴰ.append_right (bytes "01!&|>=" ++ small_letters) (letter_there 65 capital_letters capital_is 0 i p.0 (omega arith)))
    go Other p h = absurd (false≢true h)

listed_belongs : {b : ℕ} → Memᴰ b expression_bytes → belongs InExpression b ≡ true
unfolding all prefix belongs token_of
listed_belongs m = all_each InExpression {e = expression_bytes} refl m

-- a byte that is not allowed is a letter beyond the first n, or a capital letter where none may be
disallowed : (n : ℕ) (capitals : Bool) (b : ℕ) → belongs (Allowed n capitals) b ≡ false
    → Memᴰ b (drop n small_letters ++ drop n capital_letters) ⊎ ((capitals ≡ false) × Memᴰ b capital_letters)
unfolding belongs Spelt
disallowed n capitals b h = go (token_of b) (spelt b) h
  where
    Bad : Type 0
    Bad = Memᴰ b (drop n small_letters ++ drop n capital_letters) ⊎ ((capitals ≡ false) × Memᴰ b capital_letters)

    go : (t : Token) → Spelt t b → allowed n capitals t ≡ false → Bad
    go (Constant v) p h = absurd (false≢true (sym h))
    go Not p h = absurd (false≢true (sym h))
    go And p h = absurd (false≢true (sym h))
    go Or p h = absurd (false≢true (sym h))
    go Implies p h = absurd (false≢true (sym h))
    go Alike p h = absurd (false≢true (sym h))
    go (Now i) p h = inl (Memᴰ.cast p.1 (Memᴰ.append_left (drop n capital_letters) (letter_there 97 small_letters small_is n i p.0 (ltb-false i n h))))
    go (Next i) p h =
        ⊎_elim
        (λ c. inr (c, Memᴰ.cast p.1 (letter_there 65 capital_letters capital_is 0 i p.0 (omega arith))))
        (λ f. inl (Memᴰ.cast p.1 (Memᴰ.append_right (drop n small_letters) (letter_there 65 capital_letters capital_is n i p.0 (ltb-false i n f)))))
        (both_false capitals (ltb i n) h)
    go Other p h = absurd (false≢true (sym h))

beyond : (n : ℕ) (capitals : Bool) {b : ℕ} → Memᴰ b (drop n small_letters ++ drop n capital_letters) → belongs (Allowed n capitals) b ≡ false
unfolding belongs
beyond n capitals m = ⊎_elim
    (λ s.
    let p = letter_back 97 small_letters small_is n s in
    ap (λ b. allowed n capitals (token_of b)) p.3 ∙ ap (allowed n capitals) (back_now p.0 p.1) ∙ le-ltb p.0 n p.2)
    (λ s.
    let p = letter_back 65 capital_letters capital_is n s in
    ap (λ b. allowed n capitals (token_of b)) p.3 ∙ ap (allowed n capitals) (back_next p.0 p.1) ∙ ap (λ t. capitals && t) (le-ltb p.0 n p.2) ∙ and-false capitals)
    (Memᴰ.append_cases (drop n small_letters) m)

capital_there : (n : ℕ) {b : ℕ} → Memᴰ b capital_letters → belongs (Allowed n false) b ≡ false
unfolding belongs
capital_there n m =
    let p = letter_back 65 capital_letters capital_is 0 m in
    ap (λ b. allowed n false (token_of b)) p.3 ∙ ap (allowed n false) (back_next p.0 p.1)

-- ---- the numbers of an expression

-- The numbers that fit an expression e, wherever it stands.
pub data Unfit (text : List ℕ) (capitals : Bool) (e : List ℕ) : ℕ → Type 0 where
  unfit_length : ¬ Within 1 64 (length e) → Unfit text capitals e 5
  unfit_byte : {b : ℕ} → Memᴰ b e → ¬ Memᴰ b expression_bytes → Unfit text capitals e 6
  unfit_letter : {b n : ℕ} → IsN text n → Memᴰ b e → Memᴰ b (drop n small_letters ++ drop n capital_letters) → Unfit text capitals e 7
  unfit_capital : {b : ℕ} → capitals ≡ false → Memᴰ b e → Memᴰ b capital_letters → Unfit text capitals e 7
  unfit_form : ((t : Expr) → Letters 7 t → e ≢ written t) → Unfit text capitals e 8

pub unfit_late : {text e : List ℕ} {m number : ℕ} {capitals : Bool} → number ≤ 5 → Unfit text capitals e m → ¬ (m < number)
unfit_late b (unfit_length f) h = omega arith
unfit_late b (unfit_byte i f) h = omega arith
unfit_late b (unfit_letter n i l) h = omega arith
unfit_late b (unfit_capital c i l) h = omega arith
unfit_late b (unfit_form f) h = omega arith

-- a number fits where its test fails
module _ (text : List ℕ) (capitals : Bool) (e : List ℕ) where
  pub length_fails : (leb 1 (length e) && leb (length e) 64) ≡ false → Unfit text capitals e 5
  length_fails h = unfit_length (λ w. false≢true (sym h ∙ rw (le-leb 1 (length e) w.at_least, le-leb (length e) 64 w.at_most)))

  pub byte_fails : all InExpression e ≡ false → Unfit text capitals e 6
  byte_fails h = let o = some_outside InExpression e h in unfit_byte o.1 (λ m. false≢true (sym o.2 ∙ listed_belongs m))

  pub letter_fails : (n : ℕ) → IsN text n → all (Allowed n capitals) e ≡ false → Unfit text capitals e 7
  letter_fails n isN h =
      let o = some_outside (Allowed n capitals) e h in
      ⊎_elim (λ l. unfit_letter isN o.1 l) (λ l. unfit_capital l.0 o.1 l.1) (disallowed n capitals o.0 o.2)

  pub form_fails : is_one e ≡ false → Unfit text capitals e 8
  form_fails h = unfit_form (λ t l q. false≢true (sym h ∙ ap is_one q ∙ one_there t l))

-- Of the numbers with P the first, or 0 where there is none.
pub data Tried (P : ℕ → Type 0) : ℕ → Type 0 where
  tried_none : ((m : ℕ) → ¬ P m) → Tried P 0
  tried_some : {number : ℕ} → P (suc number) → ((m : ℕ) → m < suc number → ¬ P m) → Tried P (suc number)

-- the same numbers have the same first
pub tried_as : {P Q : ℕ → Type 0} → ((m : ℕ) → P m → Q m) → ((m : ℕ) → Q m → P m) → {number : ℕ} → Tried P number → Tried Q number
tried_as there back (tried_none f) = tried_none (λ m q. f m (back m q))
tried_as there back (tried_some {number} p f) = tried_some (there (suc number) p) (λ m h q. f m h (back m q))

-- where the first is 0 there is none
pub untried : {P : ℕ → Type 0} {number : ℕ} → Tried P number → number ≡ 0 → (m : ℕ) → ¬ P m
untried (tried_none f) z = f
untried (tried_some p f) z = absurd (omega arith)

module _ (text : List ℕ) (n : ℕ) (isN : IsN text n) (one-N : (m : ℕ) → IsN text m → m ≡ n) (capitals : Bool) (e : List ℕ) where
  -- numbers whose tests the expression has passed do not fit
  past : (number : ℕ) → (5 < number → Within 1 64 (length e)) → (6 < number → all InExpression e ≡ true)
      → (7 < number → all (Allowed n capitals) e ≡ true) → (8 < number → is_one e ≡ true) → (m : ℕ) → m < number → ¬ Unfit text capitals e m
  past number past5 past6 past7 past8 m h (unfit_length f) = f (past5 h)
  past number past5 past6 past7 past8 m h (unfit_byte {b} i f) = f (is_listed b (all_each InExpression (past6 h) i))
  past number past5 past6 past7 past8 m h (unfit_letter {b} {n = n'} q i l) =
      false≢true (sym (beyond n capitals (subst (λ k. Memᴰ b (drop k small_letters ++ drop k capital_letters)) (one-N n' q) l)) ∙ all_each (Allowed n capitals) (past7 h) i)
  past number past5 past6 past7 past8 m h (unfit_capital {b} c i l) =
      false≢true (sym (ap (λ x. belongs (Allowed n x) b) c ∙ capital_there n l) ∙ all_each (Allowed n capitals) (past7 h) i)
  past number past5 past6 past7 past8 m h (unfit_form f) = let o = one_back e (past8 h) in f o.0 o.1 o.2

  -- the reader's number is the first that fits
  pub expression_tried : Tried (Unfit text capitals e) (fault_of n capitals e)
  expression_tried =
      by_expression n capitals e (Tried (Unfit text capitals e))
      (λ five. tried_some (length_fails text capitals e five) (past 5 (λ h. absurd (omega arith)) (λ h. absurd (omega arith)) (λ h. absurd (omega arith)) (λ h. absurd (omega arith))))
      (λ five six.
      tried_some (byte_fails text capitals e six) (past 6 (λ _. size five) (λ h. absurd (omega arith)) (λ h. absurd (omega arith)) (λ h. absurd (omega arith))))
      (λ five six seven.
      tried_some (letter_fails text capitals e n isN seven) (past 7 (λ _. size five) (λ _. six) (λ h. absurd (omega arith)) (λ h. absurd (omega arith))))
      (λ five six seven eight. tried_some (form_fails text capitals e eight) (past 8 (λ _. size five) (λ _. six) (λ _. seven) (λ h. absurd (omega arith))))
      (λ five six seven eight. tried_none (λ m. past (suc m) (λ _. size five) (λ _. six) (λ _. seven) (λ _. eight) m (omega arith)))
    where
      size : (leb 1 (length e) && leb (length e) 64) ≡ true → Within 1 64 (length e)
      size five =
          let b = (and-eq-true_iff (leb 1 (length e)) (leb (length e) 64)).0 five in
          record { at_least = leb-true 1 (length e) b.0; at_most = leb-true (length e) 64 b.1 }
