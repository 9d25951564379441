-- The bytes of a text that is written out, classes of bytes, and how far a text keeps to one.
-- From document 01, "The model text". Assumes nothing: these are definitions.
use Rattle.std.specs.Prelude.{ℕ, Bool, true, false, not, ◌&&◌, ◌||◌, List, [], ◌∷◌, ◌++◌, eqb, leb, ltb}
use Rattle.std.specs.List.{prefix_len}
use Prim.Native.Char.{code}
use Prim.Native.String.{String, [] as nothing, ◌∷◌ as ◌then◌}
use Rattle.exprs.specs.declared.token.Token.{Token}
use Rattle.exprs.specs.declared.token.Token.TheVariants.{Constant, Now, Next, Not, And, Or, Implies, Alike, Other}
use Rattle.exprs.specs.Token.{token_of}
use Rattle.lines.specs.declared.classes.Class.{Class}
use Rattle.lines.specs.declared.classes.Class.TheVariants.{InLine, InName, InPart, InExpression, Allowed, InExpressionOf}

-- the bytes of a text in ASCII
abbrev pub bytes : String → List ℕ
bytes nothing = []
bytes (c then s) = code c ∷ bytes s

-- the text of these lines, each ended by byte 10
unfoldable pub ended_lines : List String → List ℕ
ended_lines [] = []
ended_lines (l ∷ ls) = bytes l ++ 10 ∷ ended_lines ls

abbrev pub is_token : Token → Bool
is_token (Constant v) = true
is_token (Now i) = true
is_token (Next i) = true
is_token Not = true
is_token And = true
is_token Or = true
is_token Implies = true
is_token Alike = true
is_token Other = false

-- a letter is among the first n, and a capital one stands only where capitals may
abbrev pub allowed : ℕ → Bool → Token → Bool
allowed n capitals (Constant v) = true
allowed n capitals (Now i) = ltb i n
allowed n capitals (Next i) = capitals && ltb i n
allowed n capitals Not = true
allowed n capitals And = true
allowed n capitals Or = true
allowed n capitals Implies = true
allowed n capitals Alike = true
allowed n capitals Other = true

-- a line ends before its byte 10; a name has a-z and 0-9; a part of a rule ends before the next `:`; an expression has the bytes of expressions
unfoldable pub belongs : Class → ℕ → Bool
belongs InLine b = not (eqb b 10)
belongs InName b = (leb 97 b && leb b 122) || (leb 48 b && leb b 57)
belongs InPart b = not (eqb b 58)
belongs InExpression b = is_token (token_of b)
belongs (Allowed n capitals) b = allowed n capitals (token_of b)
belongs (InExpressionOf n capitals) b = is_token (token_of b) && allowed n capitals (token_of b)

-- how many bytes at the start of s are in the class
unfoldable pub prefix : Class → List ℕ → ℕ
unfolding belongs
prefix c s = prefix_len (belongs c) s
