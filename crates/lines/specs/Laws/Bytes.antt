-- Laws of classes of bytes: what a prefix ends at, and which lists are in a class throughout.
-- From the definitions of `Bytes` and `all` of `Lines`, by induction on the lists.
use Rattle.std.specs.Prelude.{ℕ, suc, ◌+◌, ◌≤◌, ◌<◌, ◌≡◌, refl, Bool, true, false, cond, not, ◌&&◌, List, [], ◌∷◌, ◌++◌, eqb, length, get_or, take}
use Rattle.std.proofs.Common.{sym, ap, ap₂, ◌∙◌, arith, ne_eqb}
use Rattle.std.proofs.Math.Bool.{and-false, and_assoc, and-eq-true_iff}
use Rattle.std.proofs.lemmas.Bool.{false≢true}
use Rattle.std.proofs.Math.Dec.{eqb-suc-suc, eqb-zero-suc}
use Rattle.std.proofs.lemmas.List.Sums.{prefix_len-le-length, prefix_len_stops}
use Rattle.sets.specs.Laws.Choice.{by_test}
use Rattle.lines.specs.declared.classes.Class.{Class}
use Rattle.lines.specs.declared.classes.Class.TheVariants.{InLine, InPart, InExpression, Allowed, InExpressionOf}
use Rattle.lines.specs.Bytes.{belongs, prefix}
use Rattle.lines.specs.Lines.{all}

-- ---- lists that are in a class throughout

pub all_nil : (c : Class) → all c [] ≡ true
unfolding all prefix
all_nil c = refl

all_cons : (c : Class) (b : ℕ) (s : List ℕ) → all c (b ∷ s) ≡ (belongs c b && all c s)
unfolding all prefix
all_cons c b s = go (belongs c b)
  where
    go : (t : Bool) → eqb (cond t (1 + prefix c s) 0) (suc (length s)) ≡ (t && eqb (prefix c s) (length s))
    go true = let on : 1 + prefix c s ≡ suc (prefix c s) = omega arith in rw on (eqb-suc-suc (prefix c s) (length s))
    go false = eqb-zero-suc (length s)

pub all_append : (c : Class) (s t : List ℕ) → all c (s ++ t) ≡ (all c s && all c t)
all_append c [] t = ap (λ x. x && all c t) (sym (all_nil c))
all_append c (b ∷ s) t =
    all_cons c b (s ++ t) ∙ ap (λ x. belongs c b && x) (all_append c s t) ∙ sym (and_assoc (belongs c b) (all c s) (all c t)) ∙ ap (λ x. x && all c t) (sym (all_cons c b s))

-- the bytes of expressions that the letters allow
pub all_in_expression_of : (n : ℕ) (capitals : Bool) (s : List ℕ) → all (InExpressionOf n capitals) s ≡ (all InExpression s && all (Allowed n capitals) s)
unfolding belongs
all_in_expression_of n capitals [] = all_nil (InExpressionOf n capitals) ∙ sym (ap₂ ◌&&◌ (all_nil InExpression) (all_nil (Allowed n capitals)))
all_in_expression_of n capitals (b ∷ s) =
    all_cons (InExpressionOf n capitals) b s ∙ ap (λ x. belongs (InExpressionOf n capitals) b && x) (all_in_expression_of n capitals s)
    ∙ exchanged (belongs InExpression b) (belongs (Allowed n capitals) b) (all InExpression s) (all (Allowed n capitals) s)
    ∙ sym (ap₂ ◌&&◌ (all_cons InExpression b s) (all_cons (Allowed n capitals) b s))
  where
    exchanged : (p q x y : Bool) → ((p && q) && (x && y)) ≡ ((p && x) && (q && y))
    exchanged true true x y = refl
    exchanged true false x y = sym (and-false x)
    exchanged false q x y = refl

-- the first byte and the others
pub all_parts : (c : Class) (b : ℕ) (s : List ℕ) → all c (b ∷ s) ≡ true → (belongs c b ≡ true) × (all c s ≡ true)
all_parts c b s e = (and-eq-true_iff (belongs c b) (all c s)).0 (sym (all_cons c b s) ∙ e)

pub all_more : (c : Class) (b : ℕ) (s : List ℕ) → belongs c b ≡ true → all c s ≡ true → all c (b ∷ s) ≡ true
all_more c b s p q = all_cons c b s ∙ ap₂ ◌&&◌ p q

-- a class without the byte x is within the class of all other bytes
module _ (x : ℕ) (others : Class) (is : (b : ℕ) → belongs others b ≡ not (eqb b x)) (c : Class) (lacks : belongs c x ≡ false) where
  other : (b : ℕ) → belongs c b ≡ true → belongs others b ≡ true
  other b p = is b ∙ ap not (ne_eqb b x (λ q. false≢true (sym lacks ∙ ap (belongs c) (sym q) ∙ p)))

  all_others : (s : List ℕ) → all c s ≡ true → all others s ≡ true
  all_others [] e = all_nil others
  all_others (b ∷ s) e = let h = all_parts c b s e in all_more others b s (other b h.0) (all_others s h.1)

-- one without byte 10 is within a line, and one without `:` within a part of a rule
pub all_in_line : (c : Class) → belongs c 10 ≡ false → (s : List ℕ) → all c s ≡ true → all InLine s ≡ true
unfolding belongs
all_in_line = all_others 10 InLine (λ b. refl)

pub all_in_part : (c : Class) → belongs c 58 ≡ false → (s : List ℕ) → all c s ≡ true → all InPart s ≡ true
unfolding belongs
all_in_part = all_others 58 InPart (λ b. refl)

-- ---- the prefix of a class

pub prefix_le : (c : Class) (s : List ℕ) → prefix c s ≤ length s
unfolding prefix
prefix_le c s = prefix_len-le-length (belongs c) s

pub prefix_all : (c : Class) (s t : List ℕ) → all c s ≡ true → prefix c (s ++ t) ≡ length s + prefix c t
unfolding prefix
prefix_all c [] t e = omega arith
prefix_all c (b ∷ s) t e = let h = all_parts c b s e in rw h.0 (omega (arith, prefix_all c s t h.1))

-- a prefix ends at a byte outside the class
pub prefix_seam : (c : Class) (s : List ℕ) (b : ℕ) (t : List ℕ) → all c s ≡ true → belongs c b ≡ false → prefix c (s ++ b ∷ t) ≡ length s
unfolding prefix
prefix_seam c s b t e f = prefix_all c s (b ∷ t) e ∙ rw f (omega arith)

pub all_prefix : (c : Class) (s : List ℕ) → all c (take (prefix c s) s) ≡ true
unfolding prefix
all_prefix c [] = all_nil c
all_prefix c (b ∷ s) =
    by_test (λ k. all c (take k (b ∷ s)) ≡ true) (belongs c b)
    (λ p.
    let on : 1 + prefix c s ≡ suc (prefix c s) = omega arith in
    rw on (all_more c b (take (prefix c s) s) p (all_prefix c s)))
    (λ _. all_nil c)

pub prefix_ends : (c : Class) (s : List ℕ) → prefix c s < length s → belongs c (get_or s (prefix c s) 0) ≡ false
unfolding prefix
prefix_ends c s h = prefix_len_stops (belongs c) s 0 h
