-- An expression is refused by no number exactly when it is the written form of a legal expression. From the definitions of `Lines` and `Written`,
-- by induction on the expression, and by the laws of bytes and of reading.
use Rattle.std.specs.Prelude.{ℕ, ◌+◌, ◌≤◌, ◌≡◌, Bool, true, false, not, ◌||◌, leb, ltb, length}
use Rattle.std.proofs.Math.Path.{refl, ap₂}
use Rattle.std.proofs.Common.{sym, ap, ◌∙◌, arith, length-append, drop_of_length-le}
use Rattle.std.proofs.Math.Bool.{◌&&◌, and-eq-true_iff, false≢true}
use Rattle.std.specs.Bool.{beq}
use mathlib.Mathlib.Data.Bool.Basic.{eq-true_of_not-eq-false}
use mathlib.Core.List.{List, [], ◌∷◌, ◌++◌, append-nil}
use Rattle.std.proofs.Math.Option.{Option, none, some}
use borrow.Author.Tests.{eq-eqb, eqb-true, lt-ltb, ltb-true, le-leb, leb-true}
use Rattle.exprs.specs.Expr.{Expr, constant, bitNow, bitNext, negation, conjunction, disjunction, implication, equivalence, value, written, size, Letters}
use Rattle.exprs.specs.Token.{token_of}
use Rattle.exprs.specs.Reading.{read_expr}
use Rattle.exprs.specs.Laws.Reading.{size_pos, back_now, back_next, reads_what_is_written}
use Rattle.lines.specs.declared.classes.Class.{Class}
use Rattle.lines.specs.declared.classes.Class.TheVariants.{InLine, InPart, InExpression, Allowed}
use Rattle.lines.specs.Bytes.{is_token, allowed, belongs}
use Rattle.lines.specs.Lines.{all, is_size, is_one, fault_of}
use Rattle.lines.specs.Written.{Small, LegalExpr}
use Rattle.lines.proofs.Laws.Numbers.{expression_numbers, by_expression}
use Rattle.lines.specs.Laws.Bytes.{all_nil, all_append, all_parts, all_more, all_in_line, all_in_part}

-- ---- the bytes of an expression

all_two : (c : Class) (o : ℕ) (s t : List ℕ) → belongs c o ≡ true → all c s ≡ true → all c t ≡ true → all c (o ∷ s ++ t) ≡ true
all_two c o s t p q r = all_more c o (s ++ t) p (all_append c s t ∙ ap₂ ◌&&◌ q r)

all_two_parts : (c : Class) (o : ℕ) (s t : List ℕ) → all c (o ∷ s ++ t) ≡ true → (all c s ≡ true) × (all c t ≡ true)
all_two_parts c o s t e = (and-eq-true_iff (all c s) (all c t)).0 (sym (all_append c s t) ∙ (all_parts c o (s ++ t) e).1)

in_expression : (e : Expr) → Letters 7 e → all InExpression (written e) ≡ true
unfolding written belongs token_of
in_expression (constant false) l = all_more InExpression 48 [] refl (all_nil InExpression)
in_expression (constant true) l = all_more InExpression 49 [] refl (all_nil InExpression)
in_expression (bitNow i) l = all_more InExpression (97 + i) [] (ap is_token (back_now i l)) (all_nil InExpression)
in_expression (bitNext i) l = all_more InExpression (65 + i) [] (ap is_token (back_next i l)) (all_nil InExpression)
in_expression (negation e) l = all_more InExpression 33 (written e) refl (in_expression e l)
in_expression (conjunction d e) l = all_two InExpression 38 (written d) (written e) refl (in_expression d l.0) (in_expression e l.1)
in_expression (disjunction d e) l = all_two InExpression 124 (written d) (written e) refl (in_expression d l.0) (in_expression e l.1)
in_expression (implication d e) l = all_two InExpression 62 (written d) (written e) refl (in_expression d l.0) (in_expression e l.1)
in_expression (equivalence d e) l = all_two InExpression 61 (written d) (written e) refl (in_expression d l.0) (in_expression e l.1)

pub letters_more : (m n : ℕ) → m ≤ n → (e : Expr) → Letters m e → Letters n e
letters_more m n h (constant v) l = tt
letters_more m n h (bitNow i) l = omega arith
letters_more m n h (bitNext i) l = omega arith
letters_more m n h (negation e) l = letters_more m n h e l
letters_more m n h (conjunction d e) l = (letters_more m n h d l.0, letters_more m n h e l.1)
letters_more m n h (disjunction d e) l = (letters_more m n h d l.0, letters_more m n h e l.1)
letters_more m n h (implication d e) l = (letters_more m n h d l.0, letters_more m n h e l.1)
letters_more m n h (equivalence d e) l = (letters_more m n h d l.0, letters_more m n h e l.1)

-- The letters of an expression are among the first n, and where no capital letters are allowed it has none.
abbrev LegalIn : ℕ → Bool → Expr → Type 0
LegalIn n capitals e = Letters n e × (capitals ≡ false → Small e)

module _ (n : ℕ) (capitals : Bool) where
  both_legal : (d e : Expr) → LegalIn n capitals d → LegalIn n capitals e → LegalIn n capitals (conjunction d e)
  both_legal d e f g = ((f.0, g.0), λ q. (f.1 q, g.1 q))

  legal_parts : (d e : Expr) → LegalIn n capitals (conjunction d e) → LegalIn n capitals d × LegalIn n capitals e
  legal_parts d e f = ((f.0.0, λ q. (f.1 q).0), (f.0.1, λ q. (f.1 q).1))

  allowed_there : (e : Expr) → Letters 7 e → LegalIn n capitals e → all (Allowed n capitals) (written e) ≡ true
  unfolding written belongs token_of
  allowed_there (constant false) k f = all_more (Allowed n capitals) 48 [] refl (all_nil _)
  allowed_there (constant true) k f = all_more (Allowed n capitals) 49 [] refl (all_nil _)
  allowed_there (bitNow i) k f = all_more (Allowed n capitals) (97 + i) [] (ap (allowed n capitals) (back_now i k) ∙ lt-ltb i n f.0) (all_nil _)
  allowed_there (bitNext i) k f =
      all_more (Allowed n capitals) (65 + i) [] (ap (allowed n capitals) (back_next i k) ∙ ap₂ ◌&&◌ (eq-true_of_not-eq-false f.1) (lt-ltb i n f.0)) (all_nil _)
  allowed_there (negation e) k f = all_more (Allowed n capitals) 33 (written e) refl (allowed_there e k f)
  allowed_there (conjunction d e) k f =
      let p = legal_parts d e f in all_two (Allowed n capitals) 38 (written d) (written e) refl (allowed_there d k.0 p.0) (allowed_there e k.1 p.1)
  allowed_there (disjunction d e) k f =
      let p = legal_parts d e f in all_two (Allowed n capitals) 124 (written d) (written e) refl (allowed_there d k.0 p.0) (allowed_there e k.1 p.1)
  allowed_there (implication d e) k f =
      let p = legal_parts d e f in all_two (Allowed n capitals) 62 (written d) (written e) refl (allowed_there d k.0 p.0) (allowed_there e k.1 p.1)
  allowed_there (equivalence d e) k f =
      let p = legal_parts d e f in all_two (Allowed n capitals) 61 (written d) (written e) refl (allowed_there d k.0 p.0) (allowed_there e k.1 p.1)

  allowed_back : (e : Expr) → Letters 7 e → all (Allowed n capitals) (written e) ≡ true → LegalIn n capitals e
  unfolding written belongs
  allowed_back (constant v) k a = (tt, λ _. tt)
  allowed_back (bitNow i) k a =
      (ltb-true i n (sym (ap (allowed n capitals) (back_now i k)) ∙ (all_parts (Allowed n capitals) (97 + i) [] a).0), λ _. tt)
  allowed_back (bitNext i) k a =
      let both = (and-eq-true_iff capitals (ltb i n)).0 (sym (ap (allowed n capitals) (back_next i k)) ∙ (all_parts (Allowed n capitals) (65 + i) [] a).0) in
      (ltb-true i n both.1, λ q. false≢true (sym q ∙ both.0))
  allowed_back (negation e) k a = allowed_back e k (all_parts (Allowed n capitals) 33 (written e) a).1
  allowed_back (conjunction d e) k a =
      let p = all_two_parts (Allowed n capitals) 38 (written d) (written e) a in both_legal d e (allowed_back d k.0 p.0) (allowed_back e k.1 p.1)
  allowed_back (disjunction d e) k a =
      let p = all_two_parts (Allowed n capitals) 124 (written d) (written e) a in both_legal d e (allowed_back d k.0 p.0) (allowed_back e k.1 p.1)
  allowed_back (implication d e) k a =
      let p = all_two_parts (Allowed n capitals) 62 (written d) (written e) a in both_legal d e (allowed_back d k.0 p.0) (allowed_back e k.1 p.1)
  allowed_back (equivalence d e) k a =
      let p = all_two_parts (Allowed n capitals) 61 (written d) (written e) a in both_legal d e (allowed_back d k.0 p.0) (allowed_back e k.1 p.1)

-- ---- an expression

pub one_there : (e : Expr) → Letters 7 e → is_one (written e) ≡ true
unfolding is_one is_size size
one_there e l = rw ((reads_what_is_written (written e) e).1 (l, ([], sym (append-nil (written e))))) (eq-eqb (size e) (length (written e)) refl)

pub one_back : (s : List ℕ) → is_one s ≡ true → (e : Expr) × Letters 7 e × (s ≡ written e)
unfolding is_one is_size size
one_back s q = go (read_expr s) refl q
  where
    go : (o : Option Expr) → read_expr s ≡ o → is_size o (length s) ≡ true → (e : Expr) × Letters 7 e × (s ≡ written e)
    go none p h = absurd (false≢true h)
    go (some e) p h =
        let r = (reads_what_is_written s e).0 p in
        let rest : List ℕ = r.1.0 in
        let empty : rest ≡ [] = drop_of_length-le rest {i = 0} (omega (arith, eqb-true (size e) (length s) h, ap length r.1.1, length-append (written e) rest)) in
        (e, r.0, r.1.1 ∙ ap (λ x. written e ++ x) empty ∙ append-nil (written e))

pub fault_there : (n : ℕ) (capitals : Bool) (e : Expr) → n ≤ 7 → LegalExpr n capitals e → fault_of n capitals (written e) ≡ 0
unfolding size
fault_there n capitals e h l =
    let k : Letters 7 e = letters_more n 7 h e l.letters in
    (expression_numbers n capitals (written e)).by_none
    ((and-eq-true_iff _ _).1 (le-leb 1 (length (written e)) (size_pos e), le-leb (length (written e)) 64 l.bytes))
    (in_expression e k) (allowed_there n capitals e k (l.letters, l.small)) (one_there e k)

pub fault_back : (n : ℕ) (capitals : Bool) (s : List ℕ) → fault_of n capitals s ≡ 0 → (e : Expr) × LegalExpr n capitals e × (s ≡ written e)
unfolding size
fault_back n capitals s =
    by_expression n capitals s (λ x. x ≡ 0 → (e : Expr) × LegalExpr n capitals e × (s ≡ written e))
    (λ _ q. absurd (omega arith))
    (λ _ _ q. absurd (omega arith))
    (λ _ _ _ q. absurd (omega arith))
    (λ _ _ _ _ q. absurd (omega arith))
    (λ a _ c d _.
    let o = one_back s d in
    let f = allowed_back n capitals o.0 o.1 (ap (all (Allowed n capitals)) (sym o.2) ∙ c) in
    let most = leb-true (length s) 64 ((and-eq-true_iff (leb 1 (length s)) (leb (length s) 64)).0 a).1 in
    (o.0, record { bytes = omega (arith, ap length o.2); letters = f.0; small = f.1 }, o.2))

-- it has no byte 10 and no `:`
module _ (n : ℕ) (capitals : Bool) (e : Expr) (h : n ≤ 7) (l : LegalExpr n capitals e) where
  legal_bytes : all InExpression (written e) ≡ true
  legal_bytes = in_expression e (letters_more n 7 h e l.letters)

  pub legal_in_line : all InLine (written e) ≡ true
  unfolding belongs token_of
  legal_in_line = all_in_line InExpression refl (written e) legal_bytes

  pub legal_in_part : all InPart (written e) ≡ true
  unfolding belongs token_of
  legal_in_part = all_in_part InExpression refl (written e) legal_bytes

-- an expression without capital letters says nothing of the state one second later
pub small_value : (e : Expr) → Small e → (now s t : ℕ) → value e now s ≡ value e now t
unfolding value
small_value (constant v) h now s t = refl
small_value (bitNow i) h now s t = refl
small_value (bitNext i) h now s t = absurd h
small_value (negation e) h now s t = ap not (small_value e h now s t)
small_value (conjunction d e) h now s t = ap₂ ◌&&◌ (small_value d h.0 now s t) (small_value e h.1 now s t)
small_value (disjunction d e) h now s t = ap₂ ◌||◌ (small_value d h.0 now s t) (small_value e h.1 now s t)
small_value (implication d e) h now s t = ap₂ (λ x y. not x || y) (small_value d h.0 now s t) (small_value e h.1 now s t)
small_value (equivalence d e) h now s t = ap₂ beq (small_value d h.0 now s t) (small_value e h.1 now s t)
