-- What an expression is worth to a caller who says what a leaf is worth, by its token, what negation makes of its operand, and what an operator
-- with two operands, by its token, makes of them.
-- From the syntax tree. Assumes nothing: these are definitions.
use Rattle.std.specs.Prelude.{ℕ, Option, Some, None}
use Rattle.std.proofs.Math.Option.{Option as Found, none, some}
use Rattle.exprs.specs.declared.token.Token.{Token}
use Rattle.exprs.specs.declared.token.Token.TheVariants.{Constant, Now, Next, And, Or, Implies, Alike}
use Rattle.exprs.specs.Expr.{Expr, constant, bitNow, bitNext, negation, conjunction, disjunction, implication, equivalence, size}

-- the worth of the tree
unfoldable pub folded : {A : Type 0} → (Token → A) → (A → A) → (Token → A → A → A) → Expr → A
folded leaf negated joined (constant v) = leaf (Constant v)
folded leaf negated joined (bitNow i) = leaf (Now i)
folded leaf negated joined (bitNext i) = leaf (Next i)
folded leaf negated joined (negation e) = negated (folded leaf negated joined e)
folded leaf negated joined (conjunction d e) = joined And (folded leaf negated joined d) (folded leaf negated joined e)
folded leaf negated joined (disjunction d e) = joined Or (folded leaf negated joined d) (folded leaf negated joined e)
folded leaf negated joined (implication d e) = joined Implies (folded leaf negated joined d) (folded leaf negated joined e)
folded leaf negated joined (equivalence d e) = joined Alike (folded leaf negated joined d) (folded leaf negated joined e)

-- the worth of what was found, and its bytes
unfoldable pub worth_of : {A : Type 0} → (Token → A) → (A → A) → (Token → A → A → A) → Found Expr → Option (A × ℕ)
worth_of leaf negated joined none = None
worth_of leaf negated joined (some e) = Some (folded leaf negated joined e, size e)
