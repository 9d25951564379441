-- What the functions of this crate answer of the expression that a slice begins with: how many bytes it has, and its values at 64 next states.
-- From `Reading`, and the tree's own size and value.
use Rattle.std.specs.Prelude.{ℕ, ◌+◌, ◌*◌, Bool, not, ◌&&◌, ◌||◌, false, List, Option, Some, None}
use Rattle.std.specs.Bool.{beq}
use Rattle.std.proofs.Math.Option.{Option as Found, none, some}
use Rattle.sets.specs.Bit.{has}
use Rattle.sets.specs.Gathered.{set_of}
use Rattle.exprs.specs.declared.token.Token.{Token}
use Rattle.exprs.specs.declared.token.Token.TheVariants.{Constant, Now, Next, Not, And, Or, Implies, Alike, Other}
use Rattle.exprs.specs.Expr.{Expr, value, size}
use Rattle.exprs.specs.Reading.{read_expr}

-- the bytes of what was found
unfoldable pub used_by : Found Expr → Option ℕ
used_by none = None
used_by (some e) = Some (size e)

-- the bytes of the expression that s begins with
unfoldable pub read_of : List ℕ → Option ℕ
unfolding used_by
read_of s = used_by (read_expr s)

-- the values of what was found, and its bytes: bit t of the word is the value at the next state 64 * block + t
unfoldable pub words_in : ℕ → ℕ → Found Expr → Option (ℕ × ℕ)
words_in now block none = None
words_in now block (some e) = Some (set_of 64 (λ t. value e now (64 * block + t)), size e)

-- the values of the expression that s begins with at 64 next states, and its bytes
unfoldable pub words_of : List ℕ → ℕ → ℕ → Option (ℕ × ℕ)
unfolding words_in
words_of s now block = words_in now block (read_expr s)

-- an operator at the values of its operands; `!` looks at the first only, and what is no operator gives false
abbrev pub combined : Token → Bool → Bool → Bool
combined (Constant v) x y = false
combined (Now i) x y = false
combined (Next i) x y = false
combined Not x y = not x
combined And x y = x && y
combined Or x y = x || y
combined Implies x y = not x || y
combined Alike x y = beq x y
combined Other x y = false

-- negation at the word of its operand
abbrev pub negation_word : ℕ → ℕ
negation_word x = set_of 64 (λ i. not (has x i))

-- an operator with two operands at their words
abbrev pub binary_word : Token → ℕ → ℕ → ℕ
binary_word t x y = set_of 64 (λ i. combined t (has x i) (has y i))

-- a byte at 64 next states, where no operand follows
abbrev pub leaf_word : ℕ → ℕ → Token → ℕ
leaf_word now block (Constant v) = set_of 64 (λ t. v)
leaf_word now block (Now i) = set_of 64 (λ t. has now i)
leaf_word now block (Next i) = set_of 64 (λ t. has (64 * block + t) i)
leaf_word now block Not = 0
leaf_word now block And = 0
leaf_word now block Or = 0
leaf_word now block Implies = 0
leaf_word now block Alike = 0
leaf_word now block Other = 0
