-- The reading of a list of bytes. An operand is read from the rest of the text, so a byte is put before the expressions that stand in the
-- rest, and no byte is read twice. `Rattle.exprs.specs.Laws.Reading` shows that what is read is exactly what is written.
use Rattle.std.specs.Prelude.{ℕ, List, [], ◌∷◌}
use Rattle.std.proofs.Math.Option.{Option, none, some}
use Rattle.exprs.specs.declared.token.Token.{Token}
use Rattle.exprs.specs.declared.token.Token.TheVariants.{Constant, Now, Next, Not, And, Or, Implies, Alike, Other}
use Rattle.exprs.specs.Token.{token_of}
use Rattle.exprs.specs.Expr.{Expr, constant, bitNow, bitNext, negation, conjunction, disjunction, implication, equivalence}

-- an operator of one operand before the expressions es: without an operand, nothing is read
unfoldable pub with_one : (Expr → Expr) → List Expr → List Expr
with_one f [] = []
with_one f (e ∷ es) = f e ∷ es

-- the same of two operands
unfoldable pub with_two : (Expr → Expr → Expr) → List Expr → List Expr
with_two f [] = []
with_two f (d ∷ []) = []
with_two f (d ∷ e ∷ es) = f d e ∷ es

-- one more byte before the expressions es
unfoldable pub before : Token → List Expr → List Expr
unfolding with_one with_two
before (Constant v) es = constant v ∷ es
before (Now i) es = bitNow i ∷ es
before (Next i) es = bitNext i ∷ es
before Not es = with_one negation es
before And es = with_two conjunction es
before Or es = with_two disjunction es
before Implies es = with_two implication es
before Alike es = with_two equivalence es
before Other es = []

-- the expressions that stand one after the other from the start of s on, up to where none stands
unfoldable pub operands : List ℕ → List Expr
unfolding before
operands [] = []
operands (b ∷ s) = before (token_of b) (operands s)

unfoldable pub first : List Expr → Option Expr
first [] = none
first (e ∷ es) = some e

-- the expression that s begins with
unfoldable pub read_expr : List ℕ → Option Expr
unfolding operands first
read_expr s = first (operands s)
