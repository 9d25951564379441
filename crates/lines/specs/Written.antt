-- What a line of a model text may hold: a count, an expression, or a rule with its name; when each is legal, and the lines as they are written.
-- From document 01, "The model text", and document 02, "Rules that speak about power-up". Assumes nothing: these are definitions.
use Rattle.std.specs.Prelude.{ℕ, ◌≤◌, ◌≡◌, Bool, true, false, List, [], ◌∷◌, ◌++◌, length}
use Rattle.std.proofs.Math.Option.{Option, none, some}
use Rattle.exprs.specs.Expr.{Expr, constant, bitNow, bitNext, negation, conjunction, disjunction, implication, equivalence, written, size, Letters}
use Rattle.lines.specs.declared.classes.Class.TheVariants.{InName}
use Rattle.lines.specs.Lines.{rule_key, all}

-- a rule: its name, its step part, and its start part where it has one
pub record Rule : Type 0 where
  pub name : List ℕ
  pub step : Expr
  pub start : Option Expr

-- ---- when it is legal

-- a number is within a range
pub record Within (least most n : ℕ) : Type 0 where
  pub at_least : least ≤ n
  pub at_most : n ≤ most

-- the expression has no capital letter: it speaks of the bits now only
abbrev pub Small : Expr → Type 0
Small (constant v) = Unit
Small (bitNow i) = Unit
Small (bitNext i) = ⊥
Small (negation e) = Small e
Small (conjunction d e) = Small d × Small e
Small (disjunction d e) = Small d × Small e
Small (implication d e) = Small d × Small e
Small (equivalence d e) = Small d × Small e

-- an expression of a model with n bits has at most 64 bytes, its letters are among the first n, and where no capital letters are allowed
-- it has none
pub record LegalExpr (n : ℕ) (capitals : Bool) (e : Expr) : Type 0 where
  pub bytes : size e ≤ 64
  pub letters : Letters n e
  pub small : capitals ≡ false → Small e

-- a start part has small letters only
abbrev pub LegalStart : ℕ → Option Expr → Type 0
LegalStart n none = Unit
LegalStart n (some e) = LegalExpr n false e

-- a name is 1 to 8 bytes from a-z and 0-9; capital letters are allowed in step parts only
pub record LegalRule (n : ℕ) (r : Rule) : Type 0 where
  pub name_length : Within 1 8 (length r.name)
  pub name_bytes : all InName r.name ≡ true
  pub step : LegalExpr n true r.step
  pub start : LegalStart n r.start

-- ---- its written form

-- a line: its key with `=`, its value, and byte 10
unfoldable pub line : List ℕ → List ℕ → List ℕ
line key value = key ++ (value ++ 10 ∷ [])

-- a start part, behind a `:` of its own; nothing where there is none
unfoldable pub written_start : Option Expr → List ℕ
unfolding written
written_start none = []
written_start (some e) = 58 ∷ written e

-- the parts of a rule: its step part, and its start part where it has one
unfoldable pub written_parts : Rule → List ℕ
unfolding written written_start
written_parts r = written r.step ++ written_start r.start

-- a rule line: `rule=`, a name, `:` and the rule's parts
unfoldable pub written_rule : Rule → List ℕ
unfolding line written_parts
written_rule r = line rule_key (r.name ++ 58 ∷ written_parts r)
