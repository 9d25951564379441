-- `lines::expressions::is_one` meets its contract: what `read` says of the whole slice is its length.
-- Assumes nothing.
use Prim.Native.Nat.{ℕ}
use mathlib.Core.Path.{◌≡◌, refl, ap, ◌∙◌}
use lib.ListN.{length}
use Rattle.std.specs.Prelude.{Some, nat_eq}
use Rattle.std.specs.Option.{option_eq}
use Rattle.std.proofs.Math.Option.{Option, none, some}
use Rattle.exprs.specs.Expr.{Expr}
use Rattle.exprs.specs.Reading.{read_expr}
use Rattle.exprs.specs.Answers.{used_by, read_of}
use Rattle.lines.specs.Lines.{is_size, is_one}
use Rattle.lines.proofs.expressions.is_one.Goals as goal

whole : (o : Option Expr) (n : ℕ) → option_eq nat_eq (used_by o) (Some n) ≡ is_size o n
unfolding used_by is_size
whole none n = refl
whole (some e) n = refl

pub returns : goal.returns
unfolding is_one read_of
returns c =
    let e = c.args.e.now in
    c.eq.ensures ∙ ap (λ o. option_eq nat_eq o (Some (length e))) c.read.ensures ∙ whole (read_expr e) (length e)
