-- A model that is changed in its rules or in its properties and in nothing else: some rules are left out, the step part and the start part of one rule are
-- replaced, each missing start part is written out as `1`, or all properties but one are left out.
-- Assumes nothing: these are definitions.
use Rattle.std.specs.Prelude.{ℕ, true, [], ◌∷◌, length, set}
use Rattle.std.proofs.Math.Option.{Option, none, some}
use Rattle.sets.specs.Kept.{kept}
use Rattle.sets.specs.Tabulated.{tabulate}
use Rattle.exprs.specs.Expr.{Expr, constant}
use Rattle.lines.specs.Written.{Rule}
use Rattle.models.specs.Written.{Described, property_at, rule_at}

-- The model with only the rules that are in the set U, in their order and unchanged.
unfoldable pub keeping : ℕ → Described → Described
keeping U M = record { vars = M.vars; init = M.init; props = M.props; rules = kept U M.rules }

-- The model with the step part and the start part of rule i replaced by these, either of which may be what it was: rule i keeps its name, and every other
-- rule stays as it is.
unfoldable pub replacing : ℕ → Expr → Option Expr → Described → Described
replacing i step start M = record {
  vars = M.vars;
  init = M.init;
  props = M.props;
  rules = set M.rules i (record { name = (rule_at M.rules i).name; step = step; start = start });
}

-- A start part, or `1` where there is none.
unfoldable pub or_one : Option Expr → Expr
or_one none = constant true
or_one (some e) = e

-- The rule with its start part, or with `1` where it has none.
unfoldable pub start_written_out : Rule → Rule
unfolding or_one
start_written_out r = record { name = r.name; step = r.step; start = some (or_one r.start) }

-- The model with each missing start part written out as `1`.
unfoldable pub starts_written_out : Described → Described
unfolding tabulate start_written_out
starts_written_out M = record {
  vars = M.vars;
  init = M.init;
  props = M.props;
  rules = tabulate (length M.rules) (λ i. start_written_out (rule_at M.rules i));
}

-- The model with property j alone: its other property lines are left out.
unfoldable pub by_property : ℕ → Described → Described
by_property j M = record { vars = M.vars; init = M.init; props = property_at M.props j ∷ []; rules = M.rules }
