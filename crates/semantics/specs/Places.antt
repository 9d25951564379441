-- What code reads at single places of the text: whether two states meet the expression there, whether a state meets a start part, and the values of an
-- expression at 64 next states at once, one bit each. `Rattle.semantics.proofs.Laws.Places` joins this to the model that the text tells. Assumes nothing: these are definitions.
use Rattle.std.specs.Prelude.{ℕ, ◌+◌, ◌*◌, Bool, true, cond, List, Some, None, ltb, length, get_or, drop}
use Rattle.std.specs.List.{list_all}
use Rattle.sets.specs.Gathered.{set_of}
use Rattle.exprs.specs.Expr.{value}
use Rattle.rule_lines.specs.declared.names.RuleParts.{RuleParts}
use Rattle.rule_lines.specs.RuleLines.{no_parts}
use Rattle.models.specs.Written.{expr_at}

-- ---- at two states

-- The states s and t, one second later, meet the expression that stands at a place of the text.
unfoldable pub meets : List ℕ → ℕ → ℕ → ℕ → Bool
unfolding value expr_at
meets text place s t = value (expr_at text place) s t

-- The state s meets each of the expressions that stand at these places.
unfoldable pub meets_all : (text places : List ℕ) → ℕ → Bool
unfolding meets
meets_all text places s = list_all (λ place. meets text place s s) places

-- The set of the rules whose step part a pair of states meets, where their parts stand at these places of the text.
unfoldable pub mask_by : (text : List ℕ) (rules : List RuleParts) → ℕ → ℕ → ℕ
unfolding set_of meets
mask_by text rules s t = set_of (length rules) (λ i. meets text (get_or rules i no_parts).step s t)

-- ---- at power-up

-- The state s meets the start part of the rule whose parts stand at these places; it begins so many bytes behind the place of the step part. Where there
-- is none, that counts as `1`.
unfoldable pub meets_start : List ℕ → RuleParts → ℕ → Bool
unfolding meets
meets_start text p s = elim p.start [ None ↦ true | Some bytes ↦ meets (drop p.step text) bytes s s ]

-- The set of the rules whose start part a state meets.
unfoldable pub start_mask_by : (text : List ℕ) (rules : List RuleParts) → ℕ → ℕ
unfolding set_of meets_start
start_mask_by text rules s = set_of (length rules) (λ i. meets_start text (get_or rules i no_parts) s)

-- Entry t of a row of the masks of so many states: row s of a state has the masks of its pairs, and the row behind those of all states has the start masks.
unfoldable pub mask_row_by : (text : List ℕ) (rules : List RuleParts) (states : ℕ) → ℕ → ℕ → ℕ
unfolding mask_by start_mask_by
mask_row_by text rules states s t = cond (ltb s states) (mask_by text rules s t) (start_mask_by text rules t)

-- ---- at 64 next states

-- The expression at a place of the text at the state now and the next states 64 * block and the 63 after it.
unfoldable pub word_at : List ℕ → ℕ → ℕ → ℕ → ℕ
unfolding set_of meets
word_at text place s block = set_of 64 (λ t. meets text place s (64 * block + t))
