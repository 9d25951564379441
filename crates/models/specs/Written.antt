-- A model as document 01, "The model text", and document 02 describe it: what it consists of, when it is legal, its written form, and the model that a text
-- tells. `Rattle.models.proofs.Accepted` shows that the reading accepts exactly the written forms of legal models.
-- Assumes nothing: these are definitions.
use Rattle.std.specs.Prelude.{ℕ, ◌<◌, ◌≢◌, false, Some, None, length, get_or, drop}
use mathlib.Core.List.{List, [], ◌++◌, map, flat_map}
use Rattle.std.proofs.Math.Option.{Option, none, some}
use Rattle.sets.specs.Tabulated.{tabulate}
use Rattle.sets.specs.Kept.{kept}
use Rattle.exprs.specs.Expr.{Expr, constant, written}
use Rattle.exprs.specs.Reading.{read_expr}
use Rattle.lines.specs.Decimal.{decimal}
use Rattle.lines.specs.Lines.{vars_key, rules_key, init_key, prop_key}
use Rattle.rule_lines.specs.declared.names.RuleParts.{RuleParts}
use Rattle.rule_lines.specs.RuleLines.{StartPlace, no_parts, name_of}
use Rattle.lines.specs.Written.{Rule, Within, LegalExpr, LegalRule, line, written_rule}
use Rattle.models.specs.declared.model.Model.{Model}
use Rattle.models.specs.Reading.{places_of, read_model}

-- ---- what a model consists of

-- N, the expression of `init`, the properties in their order, and the rules in theirs
pub record Described : Type 0 where
  pub vars : ℕ
  pub init : Expr
  pub props : List Expr
  pub rules : List Rule

-- the property at place j, where the first has place 0
abbrev pub property_at : List Expr → ℕ → Expr
property_at props j = get_or props j (constant false)

-- the rule at place i, where the first has place 0
abbrev pub rule_at : List Rule → ℕ → Rule
rule_at rules i = get_or rules i (record { name = []; step = constant false; start = none })

-- the names of the rules in a set, in the model's order
unfoldable pub names_of : Described → ℕ → List (List ℕ)
unfolding kept
names_of M S = kept S (map (λ r. r.name) M.rules)

-- ---- when it is legal

-- N is 1 to 7, there are 1 to 4 properties and 1 to 16 rules, each part is legal, and no two rules have the same name
pub record Legal (M : Described) : Type 0 where
  pub vars : Within 1 7 M.vars
  pub properties : Within 1 4 (length M.props)
  pub count : Within 1 16 (length M.rules)
  pub init : LegalExpr M.vars false M.init
  pub props : (j : ℕ) → j < length M.props → LegalExpr M.vars false (property_at M.props j)
  pub rules : (i : ℕ) → i < length M.rules → LegalRule M.vars (rule_at M.rules i)
  pub names : (i j : ℕ) → i < j → j < length M.rules → (rule_at M.rules i).name ≢ (rule_at M.rules j).name

-- ---- its written form

-- a property line: `prop=` and an expression
unfoldable pub written_property : Expr → List ℕ
unfolding line written
written_property e = line prop_key (written e)

-- the lines in order
unfoldable pub written_model : Described → List ℕ
unfolding line decimal written flat_map written_property written_rule
written_model M =
    line vars_key (decimal M.vars)
    ++ line rules_key (decimal (length M.rules))
    ++ line init_key (written M.init)
    ++ flat_map written_property M.props
    ++ flat_map written_rule M.rules

-- ---- the model that a text tells

-- what was read; where nothing was, which is nowhere in an accepted text, the constant `0`
unfoldable pub or_false : Option Expr → Expr
or_false none = constant false
or_false (some e) = e

-- the expression that stands at a place of the text
unfoldable pub expr_at : List ℕ → ℕ → Expr
unfolding or_false read_expr
expr_at text at = or_false (read_expr (drop at text))

-- the property j of a text whose parts stand at the places m
unfoldable pub property_in : List ℕ → Model → ℕ → Expr
unfolding expr_at
property_in text m j = expr_at text (get_or m.props j 0)

-- the start part that begins so many bytes behind the place of a step part, if there is one
unfoldable pub start_at : List ℕ → ℕ → StartPlace → Option Expr
unfolding expr_at
start_at text step None = none
start_at text step (Some bytes) = some (expr_at (drop step text) bytes)

-- the rule whose parts stand at these places
unfoldable pub rule_of : List ℕ → RuleParts → Rule
unfolding name_of expr_at start_at
rule_of text p = record { name = name_of text p; step = expr_at text p.step; start = start_at text p.step p.start }

-- the rule i of a text whose parts stand at the places m
unfoldable pub rule_in : List ℕ → Model → ℕ → Rule
unfolding rule_of
rule_in text m i = rule_of text (get_or m.parts i no_parts)

-- the model of a text whose parts stand at the places m
unfoldable pub described : List ℕ → Model → Described
unfolding expr_at property_in rule_in tabulate
described text m = record {
  vars = m.vars;
  init = expr_at text m.init;
  props = tabulate m.properties (property_in text m);
  rules = tabulate m.rules (rule_in text m);
}

-- the model that a text is read as
unfoldable pub model_in : List ℕ → Described
unfolding described places_of read_model
model_in text = described text (places_of (read_model text))
