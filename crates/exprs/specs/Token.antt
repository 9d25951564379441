-- What each byte of an expression stands for, and how many operands follow it.
-- The whole alphabet of expressions stands here and nowhere else.
use Rattle.std.specs.Prelude.{ℕ, ◌-◌, true, false, cond, ◌&&◌, eqb, leb, Option, Some, None}
use Rattle.exprs.specs.declared.token.Token.{Token}
use Rattle.exprs.specs.declared.token.Token.TheVariants.{Constant, Now, Next, Not, And, Or, Implies, Alike, Other}

-- `0` and `1` are false and true, `!` takes one operand, `&`, `|`, `>` and `=` take two, `a` to `g` are the bits now and `A` to `G` the bits one second later
unfoldable pub token_of : ℕ → Token
token_of b =
    cond (eqb b 48) (Constant false)
    (cond (eqb b 49) (Constant true)
    (cond (eqb b 33) Not
    (cond (eqb b 38) And
    (cond (eqb b 124) Or
    (cond (eqb b 62) Implies
    (cond (eqb b 61) Alike
    (cond (leb 97 b && leb b 103) (Now (b - 97))
    (cond (leb 65 b && leb b 71) (Next (b - 65))
    Other))))))))

-- how many operands follow a byte; none is said of a byte that no expression has
abbrev pub operand_count : Token → Option ℕ
operand_count (Constant v) = Some 0
operand_count (Now i) = Some 0
operand_count (Next i) = Some 0
operand_count Not = Some 1
operand_count And = Some 2
operand_count Or = Some 2
operand_count Implies = Some 2
operand_count Alike = Some 2
operand_count Other = None
