-- When a text is refused: the numbers 1 to 9 as document 01, "When a call is turned away", lists them, each with the lines where it fits, and the
-- one that comes first. `Rattle.models.proofs.Refused` shows that the reading answers with this one. From document 01, "The model text" and
-- "When a call is turned away", and document 02, "Several properties together" and "Rules that speak about power-up". Assumes nothing: these are definitions.
use Rattle.std.specs.Prelude.{ℕ, zero, suc, ◌+◌, ◌-◌, ◌≤◌, ◌<◌, ◌≡◌, ◌≢◌, ◌⊎◌, Bool, true, false, length, drop}
use mathlib.Core.List.{List, [], ◌∷◌, ◌++◌, Memᴰ}
use Rattle.std.proofs.Math.Option.{Option, none, some}
use Rattle.exprs.specs.Expr.{Expr, written, Letters}
use Rattle.lines.specs.declared.classes.Class.TheVariants.{InName}
use Rattle.lines.specs.Bytes.{bytes}
use Rattle.lines.specs.Decimal.{decimal}
use Rattle.lines.specs.Lines.{vars_key, rules_key, init_key, prop_key, rule_key, all}
use Rattle.lines.specs.Written.{Within, LegalExpr}
use Rattle.bodies.specs.Properties.{after_line, property_count}

-- ---- the lines of a text

-- what follows the first n lines
unfoldable pub after_lines : ℕ → List ℕ → List ℕ
unfolding after_line
after_lines zero s = s
after_lines (suc n) s = after_lines n (after_line s)

-- Line k of the text is l, where the first is line 1: it follows the k - 1 lines before, has a byte 10 at its end, and none within.
pub record LineAt (text : List ℕ) (k : ℕ) (l : List ℕ) : Type 0 where
  pub rest : List ℕ
  pub stands : after_lines (k - 1) text ≡ l ++ 10 ∷ rest
  pub unbroken : ¬ Memᴰ 10 l

-- line k starts with the key and its `=`, and the value is what follows
abbrev pub HasValue : List ℕ → ℕ → List ℕ → List ℕ → Type 0
HasValue text k key value = LineAt text k (key ++ value)

-- ---- the lines that are due

-- Lines 1 and 2 hold the counts N and R: the line, its key and the greatest count.
pub data CountLine : ℕ → List ℕ → ℕ → Type 0 where
  vars_line : CountLine 1 vars_key 7
  rules_line : CountLine 2 rules_key 16

-- The first rule line follows the property lines, of which the first is line 4.
unfoldable pub first_rule_line : List ℕ → ℕ
unfolding after_lines property_count
first_rule_line text = 4 + property_count (after_lines 3 text)

-- Line 3 holds the expression `init`, and each line between it and the first rule line a property.
pub data StateLine (text : List ℕ) : ℕ → List ℕ → Type 0 where
  init_line : StateLine text 3 init_key
  prop_line : {k : ℕ} → 4 ≤ k → k < first_rule_line text → StateLine text k prop_key

-- Line k gives the count n, which is written in base ten and in its range.
pub record GivesCount (text : List ℕ) (k : ℕ) (key : List ℕ) (most n : ℕ) : Type 0 where
  pub value : HasValue text k key (decimal n)
  pub range : Within 1 most n

-- the N and the R of a text, where lines 1 and 2 give them
abbrev pub IsN : List ℕ → ℕ → Type 0
IsN text n = GivesCount text 1 vars_key 7 n

abbrev pub IsR : List ℕ → ℕ → Type 0
IsR text r = GivesCount text 2 rules_key 16 r

-- Line k is one of the R rule lines.
pub record IsRuleLine (text : List ℕ) (k : ℕ) : Type 0 where
  pub R : ℕ
  pub count : IsR text R
  pub least : first_rule_line text ≤ k
  pub most : k < first_rule_line text + R

-- Line k is due, with this key.
pub data Due (text : List ℕ) : ℕ → List ℕ → Type 0 where
  count_due : {k : ℕ} {key : List ℕ} {most : ℕ} → CountLine k key most → Due text k key
  state_due : {k : ℕ} {key : List ℕ} → StateLine text k key → Due text k key
  rule_due : {k : ℕ} → IsRuleLine text k → Due text k rule_key

-- ---- the parts of a line

-- "A name is 1 to 8 bytes from a-z and 0-9."
pub record ProperName (name : List ℕ) : Type 0 where
  pub size : Within 1 8 (length name)
  pub bytes : all InName name ≡ true

-- The value of the rule line k is a proper name, `:`, and e behind it.
pub record HasName (text : List ℕ) (k : ℕ) (name e : List ℕ) : Type 0 where
  pub rule : IsRuleLine text k
  pub proper : ProperName name
  pub value : HasValue text k rule_key (name ++ 58 ∷ e)

-- What stands behind a name's `:` is a step part alone, or a step part, a second `:` and a start part. A step part has no `:`.
pub data HasParts (e step : List ℕ) : Option (List ℕ) → Type 0 where
  step_alone : ¬ Memᴰ 58 step → e ≡ step → HasParts e step none
  step_and_start : {start : List ℕ} → ¬ Memᴰ 58 step → e ≡ step ++ 58 ∷ start → HasParts e step (some start)

-- The step part has passed: it is the written form of a legal expression, in which capital letters are allowed.
pub record StepPassed (text step : List ℕ) : Type 0 where
  pub n : ℕ
  pub count : IsN text n
  pub expression : Expr
  pub legal : LegalExpr n true expression
  pub is : step ≡ written expression

-- e stands in line k where an expression is due: in `init`, in `prop` and in a start part without capital letters, in a step part with them. "A bad start
-- part is refused by 5 to 8 after the step part has passed."
pub data Expression (text : List ℕ) : ℕ → Bool → List ℕ → Type 0 where
  of_state : {k : ℕ} {key e : List ℕ} → StateLine text k key → HasValue text k key e → Expression text k false e
  of_step : {k : ℕ} {name e step : List ℕ} {start : Option (List ℕ)} → HasName text k name e → HasParts e step start → Expression text k true step
  of_start : {k : ℕ} {name e step start : List ℕ} → HasName text k name e → HasParts e step (some start) → StepPassed text step → Expression text k false start

-- `a` to `g` and `A` to `G`
abbrev pub small_letters : List ℕ
small_letters = bytes "abcdefg"

abbrev pub capital_letters : List ℕ
capital_letters = bytes "ABCDEFG"

-- the bytes of expressions
abbrev pub expression_bytes : List ℕ
expression_bytes = bytes "01!&|>=" ++ small_letters ++ capital_letters

-- ---- the numbers

-- The number fits at the line.
pub data FitsAt (text : List ℕ) : (number line : ℕ) → Type 0 where
  -- 1. "The line due here is missing, doesn't start with its key and `=`, or has no byte 10 at its end."
  line_missing : {k : ℕ} {key : List ℕ} → Due text k key → ((v : List ℕ) → ¬ HasValue text k key v) → FitsAt text 1 k
  -- 2. "The count is not written as above or is outside its range."
  count_wrong : {k : ℕ} {key v : List ℕ} {most : ℕ} → CountLine k key most → HasValue text k key v
      → ((n : ℕ) → Within 1 most n → v ≢ decimal n) → FitsAt text 2 k
  -- 3. "A rule line's value doesn't begin with a proper name and `:`."
  name_improper : {k : ℕ} {v : List ℕ} → IsRuleLine text k → HasValue text k rule_key v
      → ((name e : List ℕ) → ProperName name → v ≢ name ++ 58 ∷ e) → FitsAt text 3 k
  -- 4. "An earlier rule has this name."
  name_taken : {j k : ℕ} {name d e : List ℕ} → j < k → HasName text j name d → HasName text k name e → FitsAt text 4 k
  -- 5. "The expression has no byte or more than 64."
  length_wrong : {k : ℕ} {capitals : Bool} {e : List ℕ} → Expression text k capitals e → ¬ Within 1 64 (length e) → FitsAt text 5 k
  -- 6. "It has a byte other than `0`, `1`, `!`, `&`, `|`, `>`, `=`, a to g and A to G."
  byte_other : {k : ℕ} {capitals : Bool} {e : List ℕ} {b : ℕ} → Expression text k capitals e → Memᴰ b e
      → ¬ Memᴰ b expression_bytes → FitsAt text 6 k
  -- 7. "It has a letter beyond the first N, or a capital letter in `init` or `prop`", or in a start part.
  letter_beyond : {k : ℕ} {capitals : Bool} {e : List ℕ} {b n : ℕ} → Expression text k capitals e → IsN text n → Memᴰ b e
      → Memᴰ b (drop n small_letters ++ drop n capital_letters) → FitsAt text 7 k
  letter_capital : {k : ℕ} {e : List ℕ} {b : ℕ} → Expression text k false e → Memᴰ b e → Memᴰ b capital_letters → FitsAt text 7 k
  -- 8. "It isn't exactly one expression." It is the written form of none, with letters a to g and A to G.
  not_one : {k : ℕ} {capitals : Bool} {e : List ℕ} → Expression text k capitals e → ((t : Expr) → Letters 7 t → e ≢ written t) → FitsAt text 8 k
  -- 9. "Bytes follow the last rule line." It names the line behind that, "wherever that now falls".
  bytes_follow : {r : ℕ} → IsR text r → after_lines (first_rule_line text + r - 1) text ≢ [] → FitsAt text 9 (first_rule_line text + r)

-- ---- the order

-- "Numbers 1 to 8 are tried line by line, in this order within a line; after the whole text" comes 9, which has the line behind the last.
abbrev pub ComesBefore : (number line number' line' : ℕ) → Type 0
ComesBefore number line number' line' = (line < line') ⊎ ((line ≡ line') × (number < number'))

-- The number fits at the line, and none that comes before it fits.
pub record First (text : List ℕ) (number line : ℕ) : Type 0 where
  pub fits : FitsAt text number line
  pub none : (number' line' : ℕ) → ComesBefore number' line' number line → ¬ FitsAt text number' line'
