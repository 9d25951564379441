-- The laws of reading: what is written is read, what is read is written, and a text has at most one reading.
-- From the definitions in `Token`, `Expr` and `Reading`, by induction on the expression and on the text.
use Rattle.std.specs.Prelude.{ℕ, ◌+◌, ◌-◌, ◌<◌, ◌≤◌, ◌≡◌, refl, ◌↔◌, Bool, true, false, ◌&&◌, List, [], ◌∷◌, ◌++◌, eqb, leb, drop}
use Rattle.std.proofs.Common.{sym, ap, ap₂, ◌∙◌, subst, append_assoc, arith, eqb-true, leb-true, le-leb, ne_eqb}
use Rattle.std.proofs.Math.Option.{some, none-ne-some, some-injective}
use Rattle.std.proofs.lemmas.Bool.{lt-leb}
use Rattle.std.proofs.Math.Seq.{drop-append_seam}
use Rattle.sets.specs.Laws.Choice.{by_test}
use Rattle.exprs.specs.declared.token.Token.{Token}
use Rattle.exprs.specs.declared.token.Token.TheVariants.{Constant, Now, Next, Not, And, Or, Implies, Alike, Other}
use Rattle.exprs.specs.Token.{token_of}
use Rattle.exprs.specs.Expr.{Expr, constant, bitNow, bitNext, negation, conjunction, disjunction, implication, equivalence, written, size, Letters}
use Rattle.exprs.specs.Reading.{with_one, with_two, before, operands, first, read_expr}

-- an expression has a byte at least
pub size_pos : (e : Expr) → 1 ≤ size e
unfolding size written
size_pos (constant v) = omega arith
size_pos (bitNow i) = omega arith
size_pos (bitNext i) = omega arith
size_pos (negation e) = omega arith
size_pos (conjunction d e) = omega arith
size_pos (disjunction d e) = omega arith
size_pos (implication d e) = omega arith
size_pos (equivalence d e) = omega arith

-- ---- each byte stands for one token, and each token but `Other` is spelt by one byte

unfoldable pub Spelt : Token → ℕ → Type 0
Spelt (Constant false) b = b ≡ 48
Spelt (Constant true) b = b ≡ 49
Spelt (Now i) b = (i < 7) × (b ≡ 97 + i)
Spelt (Next i) b = (i < 7) × (b ≡ 65 + i)
Spelt Not b = b ≡ 33
Spelt And b = b ≡ 38
Spelt Or b = b ≡ 124
Spelt Implies b = b ≡ 62
Spelt Alike b = b ≡ 61
Spelt Other b = Unit

letter : (f b : ℕ) → (leb f b && leb b (f + 6)) ≡ true → (b - f < 7) × (b ≡ f + (b - f))
letter f b e = go (leb f b) refl e
  where
    go : (t : Bool) → leb f b ≡ t → (t && leb b (f + 6)) ≡ true → (b - f < 7) × (b ≡ f + (b - f))
    go true l h = let low : f ≤ b = leb-true f b l in let high : b ≤ f + 6 = leb-true b (f + 6) h in omega arith
    go false l h = absurd (elim_false h)
      where
        elim_false : false ≡ true → ⊥
        elim_false q = let z : ◌≡◌ {A = ℕ} 0 1 = cc in omega arith

pub spelt : (b : ℕ) → Spelt (token_of b) b
unfolding Spelt token_of
spelt b =
    by_test (λ t. Spelt t b) (eqb b 48) (λ e. eqb-true b 48 e) λ _.
    by_test (λ t. Spelt t b) (eqb b 49) (λ e. eqb-true b 49 e) λ _.
    by_test (λ t. Spelt t b) (eqb b 33) (λ e. eqb-true b 33 e) λ _.
    by_test (λ t. Spelt t b) (eqb b 38) (λ e. eqb-true b 38 e) λ _.
    by_test (λ t. Spelt t b) (eqb b 124) (λ e. eqb-true b 124 e) λ _.
    by_test (λ t. Spelt t b) (eqb b 62) (λ e. eqb-true b 62 e) λ _.
    by_test (λ t. Spelt t b) (eqb b 61) (λ e. eqb-true b 61 e) λ _.
    by_test (λ t. Spelt t b) (leb 97 b && leb b 103) (λ e. letter 97 b e) λ _.
    by_test (λ t. Spelt t b) (leb 65 b && leb b 71) (λ e. letter 65 b e) λ _. tt

-- ---- what is written is read

pub back_now : (i : ℕ) → i < 7 → token_of (97 + i) ≡ Now i
unfolding token_of
back_now i h =
    simp (ne_eqb (97 + i) 48 (omega arith), ne_eqb (97 + i) 49 (omega arith), ne_eqb (97 + i) 33 (omega arith), ne_eqb (97 + i) 38 (omega arith), ne_eqb (97 + i) 124 (omega arith), ne_eqb (97 + i) 62 (omega arith), ne_eqb (97 + i) 61 (omega arith), le-leb 97 (97 + i) (omega arith), le-leb (97 + i) 103 (omega arith))
    (ap Now (omega arith))

pub back_next : (i : ℕ) → i < 7 → token_of (65 + i) ≡ Next i
unfolding token_of
back_next i h =
    simp (ne_eqb (65 + i) 48 (omega arith), ne_eqb (65 + i) 49 (omega arith), ne_eqb (65 + i) 33 (omega arith), ne_eqb (65 + i) 38 (omega arith), ne_eqb (65 + i) 124 (omega arith), ne_eqb (65 + i) 62 (omega arith), ne_eqb (65 + i) 61 (omega arith), lt-leb 97 (65 + i) (omega arith), le-leb 65 (65 + i) (omega arith), le-leb (65 + i) 71 (omega arith))
    (ap Next (omega arith))

-- two operands that stand one after the other, before s
two_read : (d e : Expr) (s : List ℕ) → operands (written d ++ (written e ++ s)) ≡ d ∷ operands (written e ++ s) → operands (written e ++ s) ≡ e ∷ operands s
    → operands ((written d ++ written e) ++ s) ≡ d ∷ e ∷ operands s
two_read d e s p q = ap operands (append_assoc (written d) (written e) s) ∙ p ∙ ap (λ es. d ∷ es) q

written_read : (e : Expr) (s : List ℕ) → Letters 7 e → operands (written e ++ s) ≡ e ∷ operands s
unfolding written operands token_of
written_read (constant false) s l = refl
written_read (constant true) s l = refl
written_read (bitNow i) s l = ap (λ t. before t (operands s)) (back_now i l)
written_read (bitNext i) s l = ap (λ t. before t (operands s)) (back_next i l)
written_read (negation e) s l = ap (before Not) (written_read e s l)
written_read (conjunction d e) s l = ap (before And) (two_read d e s (written_read d (written e ++ s) l.0) (written_read e s l.1))
written_read (disjunction d e) s l = ap (before Or) (two_read d e s (written_read d (written e ++ s) l.0) (written_read e s l.1))
written_read (implication d e) s l = ap (before Implies) (two_read d e s (written_read d (written e ++ s) l.0) (written_read e s l.1))
written_read (equivalence d e) s l = ap (before Alike) (two_read d e s (written_read d (written e ++ s) l.0) (written_read e s l.1))

-- ---- what is read is written

-- s is the written form of the expressions es, one after the other, with something behind
Stand : List Expr → List ℕ → Type 0
Stand [] s = Unit
Stand (e ∷ es) s = (rest : List ℕ) × Letters 7 e × (s ≡ written e ++ rest) × (operands rest ≡ es) × Stand es rest

-- an operator of two operands before d and e
two_stand : (f : Expr → Expr → Expr) (o b : ℕ) (s : List ℕ) → b ≡ o → ((d e : Expr) → written (f d e) ≡ o ∷ written d ++ written e) → ((d e : Expr) → Letters 7 d → Letters 7 e → Letters 7 (f d e))
    → (es : List Expr) → Stand es s → Stand (with_two f es) (b ∷ s)
unfolding Stand with_two
two_stand f o b s q w l [] h = tt
two_stand f o b s q w l (d ∷ []) h = tt
two_stand f o b s q w l (d ∷ e ∷ es) h =
    let k = h.4 in (
      k.0,
      l d e h.1 k.1,
      ap₂ ◌∷◌ q (h.2 ∙ ap (λ r. written d ++ r) k.2 ∙ sym (append_assoc (written d) (written e) k.0)) ∙ ap (λ x. x ++ k.0) (sym (w d e)),
      k.3,
      k.4,
    )

one_stand : (b : ℕ) (s : List ℕ) → b ≡ 33 → (es : List Expr) → Stand es s → Stand (with_one negation es) (b ∷ s)
unfolding Stand with_one written
one_stand b s q [] h = tt
one_stand b s q (e ∷ es) h = (h.0, h.1, ap₂ ◌∷◌ q h.2, h.3, h.4)

stand_before : (t : Token) (b : ℕ) (s : List ℕ) → Spelt t b → Stand (operands s) s → Stand (before t (operands s)) (b ∷ s)
unfolding Stand before Spelt written
stand_before (Constant false) b s p h = (s, tt, ap (λ x. x ∷ s) p, refl, h)
stand_before (Constant true) b s p h = (s, tt, ap (λ x. x ∷ s) p, refl, h)
stand_before (Now i) b s p h = (s, p.0, ap (λ x. x ∷ s) p.1, refl, h)
stand_before (Next i) b s p h = (s, p.0, ap (λ x. x ∷ s) p.1, refl, h)
stand_before Not b s p h = one_stand b s p (operands s) h
stand_before And b s p h = two_stand conjunction 38 b s p (λ d e. refl) (λ d e k l. (k, l)) (operands s) h
stand_before Or b s p h = two_stand disjunction 124 b s p (λ d e. refl) (λ d e k l. (k, l)) (operands s) h
stand_before Implies b s p h = two_stand implication 62 b s p (λ d e. refl) (λ d e k l. (k, l)) (operands s) h
stand_before Alike b s p h = two_stand equivalence 61 b s p (λ d e. refl) (λ d e k l. (k, l)) (operands s) h
stand_before Other b s p h = tt

stand : (s : List ℕ) → Stand (operands s) s
unfolding Stand operands
stand [] = tt
stand (b ∷ s) = stand_before (token_of b) b s (spelt b) (stand s)

-- What stands where an expression e was read: its written form, and behind it the rest, where the other expressions stand.
pub record ReadsAs (s : List ℕ) (e : Expr) (es : List Expr) : Type 0 where
  pub letters : Letters 7 e
  pub text : s ≡ written e ++ drop (size e) s
  pub others : operands (drop (size e) s) ≡ es

pub read_written : (s : List ℕ) (e : Expr) (es : List Expr) → operands s ≡ e ∷ es → ReadsAs s e es
unfolding Stand size
read_written s e es q =
    let h : Stand (e ∷ es) s = subst (λ os. Stand os s) q (stand s) in
    let d : drop (size e) s ≡ h.0 = ap (drop (size e)) h.2 ∙ drop-append_seam (written e) h.0 in
    record { letters = h.1; text = h.2 ∙ ap (λ r. written e ++ r) (sym d); others = ap operands d ∙ h.3 }

-- ---- the laws in the document's words

-- the reader accepts exactly the written forms
pub reads_what_is_written : (s : List ℕ) (e : Expr) → (read_expr s ≡ some e) ↔ (Letters 7 e × ((rest : List ℕ) × (s ≡ written e ++ rest)))
unfolding read_expr first
reads_what_is_written s e = (λ q. there (operands s) refl q, λ h. ap read_expr h.1.1 ∙ ap first (written_read e h.1.0 h.0))
  where
    there : (os : List Expr) → operands s ≡ os → first os ≡ some e → Letters 7 e × ((rest : List ℕ) × (s ≡ written e ++ rest))
    there [] p q = absurd (none-ne-some e q)
    there (d ∷ es) p q =
        let same : d ≡ e = some-injective d e q in
        let f = read_written s e es (p ∙ ap (λ x. x ∷ es) same) in
        (f.letters, (drop (size e) s, f.text))

-- a text has at most one reading
pub one_reading : (d e : Expr) (r r' : List ℕ) → Letters 7 d → Letters 7 e → written d ++ r ≡ written e ++ r' → d ≡ e
one_reading d e r r' k l q =
    let p : d ∷ operands r ≡ e ∷ operands r' = sym (written_read d r k) ∙ ap operands q ∙ written_read e r' l in
    cc
