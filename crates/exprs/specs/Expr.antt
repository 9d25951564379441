-- Expressions: the syntax tree, its value over the state now and the state one second later, and its written form, operator first.
-- From document 01, "The model text". Assumes nothing: these are definitions.
use Rattle.std.specs.Prelude.{ℕ, ◌+◌, ◌<◌, Bool, cond, not, ◌&&◌, ◌||◌, List, [], ◌∷◌, ◌++◌, length}
use Rattle.std.specs.Bool.{beq}
use Rattle.sets.specs.Bit.{has}

-- `bitNow i` is the letter at place i of `a` to `g`, and `bitNext i` the one at place i of `A` to `G`
pub data Expr : Type 0 where
  constant : Bool → Expr
  bitNow bitNext : ℕ → Expr
  negation : Expr → Expr
  conjunction disjunction implication equivalence : Expr → Expr → Expr

-- the value where `now` is the state now and `next` the state one second later
unfoldable pub value : Expr → ℕ → ℕ → Bool
value (constant v) now next = v
value (bitNow i) now next = has now i
value (bitNext i) now next = has next i
value (negation e) now next = not (value e now next)
value (conjunction d e) now next = value d now next && value e now next
value (disjunction d e) now next = value d now next || value e now next
value (implication d e) now next = not (value d now next) || value e now next
value (equivalence d e) now next = beq (value d now next) (value e now next)

-- the bytes: `0` is 48, `1` 49, `a` 97, `A` 65, `!` 33, `&` 38, `|` 124, `>` 62 and `=` 61
unfoldable pub written : Expr → List ℕ
written (constant v) = cond v 49 48 ∷ []
written (bitNow i) = (97 + i) ∷ []
written (bitNext i) = (65 + i) ∷ []
written (negation e) = 33 ∷ written e
written (conjunction d e) = 38 ∷ written d ++ written e
written (disjunction d e) = 124 ∷ written d ++ written e
written (implication d e) = 62 ∷ written d ++ written e
written (equivalence d e) = 61 ∷ written d ++ written e

-- how many bytes the written form has
unfoldable pub size : Expr → ℕ
unfolding written
size e = length (written e)

-- every letter of the expression is among the first n
abbrev pub Letters : ℕ → Expr → Type 0
Letters n (constant v) = Unit
Letters n (bitNow i) = i < n
Letters n (bitNext i) = i < n
Letters n (negation e) = Letters n e
Letters n (conjunction d e) = Letters n d × Letters n e
Letters n (disjunction d e) = Letters n d × Letters n e
Letters n (implication d e) = Letters n d × Letters n e
Letters n (equivalence d e) = Letters n d × Letters n e
