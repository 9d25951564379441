-- The lines of a model text but for the rule lines, each read by itself: the first of the numbers 1, 2 and 5 to 8 that fits, in the document's order
-- within a line, or what the line says and how many bytes it has. From document 01, "The model text" and "When a call is turned away". Assumes nothing.
use Rattle.std.specs.Prelude.{ℕ, zero, suc, ◌+◌, ◌-◌, ◌≡◌, Bool, true, false, cond, ◌&&◌, List, eqb, leb, ltb, length, take, drop, Option, Some, None, Result, Ok, Err}
use Rattle.std.proofs.Math.Option.{Option as Maybe, none, some}
use Rattle.exprs.specs.Expr.{Expr, size}
use Rattle.exprs.specs.Reading.{read_expr}
use Rattle.lines.specs.declared.classes.Class.{Class}
use Rattle.lines.specs.declared.classes.Class.TheVariants.{InLine, InExpression, Allowed}
use Rattle.lines.specs.declared.line.Said.{Said}
use Rattle.lines.specs.Bytes.{bytes, prefix}
use Rattle.slices.specs.Same.{same}
use Rattle.lines.specs.Decimal.{decimal}
use Rattle.refusals.specs.declared.refusal.Reason.{Reason}
use Rattle.refusals.specs.Numbers.{number_of}

-- What reading a line gives: the number that refuses it; or what it says, and how many bytes it has with its byte 10. A count line says the count, and
-- a line with an expression the place within the line where the expression begins.
pub data Line (A : Type 0) : Type 0 where
  Fault : (number : ℕ) → Line A
  Read : (value : A) → (bytes : ℕ) → Line A

-- how a result reads as a line
abbrev pub line_of : {A : Type 0} → Result (Said A) Reason → Line A
line_of (Ok said) = Read said.value said.bytes
line_of (Err reason) = Fault (number_of reason)

-- the number that refuses, 0 if none does
abbrev pub fault_number_of : {A : Type 0} → Result A Reason → ℕ
fault_number_of (Ok value) = 0
fault_number_of (Err reason) = number_of reason

-- the keys with their `=`
abbrev pub vars_key : List ℕ
vars_key = bytes "vars="

abbrev pub rules_key : List ℕ
rules_key = bytes "rules="

abbrev pub init_key : List ℕ
init_key = bytes "init="

abbrev pub prop_key : List ℕ
prop_key = bytes "prop="

abbrev pub rule_key : List ℕ
rule_key = bytes "rule="

-- the bytes of the line that s begins with, without its byte 10
unfoldable pub line_length : List ℕ → ℕ
unfolding prefix
line_length s = prefix InLine s

-- s starts with the key
abbrev pub starts_with : List ℕ → List ℕ → Bool
starts_with key s = same (take (length key) s) key

-- s begins with a line that starts with the key and has a byte 10 at its end
unfoldable pub is_line : List ℕ → List ℕ → Bool
unfolding same line_length
is_line key s = starts_with key s && ltb (line_length s) (length s)

-- where that line ends
unfoldable pub end_of : List ℕ → List ℕ → Option ℕ
unfolding is_line line_length
end_of key s = cond (is_line key s) (Some (line_length s)) None

-- what stands between the key and the byte 10
unfoldable pub value_of : List ℕ → List ℕ → List ℕ
unfolding line_length
value_of key s = take (line_length s - length key) (drop (length key) s)

-- a line that says v: its bytes are counted with its byte 10
unfoldable pub says : {A : Type 0} → A → List ℕ → Line A
unfolding line_length
says v s = Read v (line_length s + 1)

-- how what a value reads as is said of its line
unfoldable pub said_of : {A : Type 0} → Result A Reason → List ℕ → Line A
unfolding says
said_of (Ok v) s = says v s
said_of (Err reason) s = Fault (number_of reason)

-- The reading of a line with the key, where `reads` tells what a value may read as: a line that is missing is refused by 1, and of any other its value is read.
pub data ByValue {A : Type 0} (reads : List ℕ → Result A Reason → Type 0) (key s : List ℕ) : Line A → Type 0 where
  missing : is_line key s ≡ false → ByValue reads key s (Fault 1)
  by_value : {r : Result A Reason} → is_line key s ≡ true → reads (value_of key s) r → ByValue reads key s (said_of r s)

-- what is read, unless a number refuses it
unfoldable pub unless_fault : {A : Type 0} → (ℕ → A) → ℕ → A → A
unless_fault fault zero read = read
unless_fault fault (suc number) read = fault (suc number)

-- ---- number 2: a count

-- the count of 1 to `most` that v writes in base ten; 0 if it writes none
unfoldable pub count_in : ℕ → List ℕ → ℕ
unfolding same decimal
count_in zero v = 0
count_in (suc n) v = cond (same v (decimal (suc n))) (suc n) (count_in n v)

-- the same count, if there is one
abbrev pub count_or_none : ℕ → Option ℕ
count_or_none zero = None
count_or_none (suc n) = Some (suc n)

unfoldable pub counted : ℕ → List ℕ → Line ℕ
unfolding says
counted zero s = Fault 2
counted (suc n) s = says (suc n) s

-- `vars` and `rules`: a count of 1 to `most`
unfoldable pub count_line : List ℕ → ℕ → List ℕ → Line ℕ
unfolding is_line value_of count_in counted
count_line key most s = cond (is_line key s) (counted (count_in most (value_of key s)) s) (Fault 1)

-- ---- numbers 5 to 8: an expression

-- every byte of e is in the class
unfoldable pub all : Class → List ℕ → Bool
unfolding prefix
all c e = eqb (prefix c e) (length e)

unfoldable pub is_size : Maybe Expr → ℕ → Bool
is_size none n = false
is_size (some t) n = eqb (size t) n

-- e is exactly one expression
unfoldable pub is_one : List ℕ → Bool
unfolding is_size read_expr
is_one e = is_size (read_expr e) (length e)

-- the number that refuses the expression e in a model of n letters, 0 if none does
unfoldable pub fault_of : ℕ → Bool → List ℕ → ℕ
unfolding all is_one
fault_of n capitals e =
    cond (leb 1 (length e) && leb (length e) 64)
    (cond (all InExpression e)
    (cond (all (Allowed n capitals) e)
    (cond (is_one e) 0 8)
    7)
    6)
    5

-- `init` and `prop` have small letters only
unfoldable pub state_line : List ℕ → ℕ → List ℕ → Line ℕ
unfolding is_line value_of fault_of unless_fault says
state_line key n s = cond (is_line key s) (unless_fault Fault (fault_of n false (value_of key s)) (says (length key) s)) (Fault 1)
