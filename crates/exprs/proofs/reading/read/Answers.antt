-- `exprs::reading::read` meets its contract: of what `evaluate` answers, the bytes alone. Assumes nothing.
use Prim.Native.Nat.{ℕ}
use mathlib.Core.Path.{◌≡◌, refl, ap, ◌∙◌}
use Rattle.std.specs.Prelude.{option_map}
use Rattle.std.proofs.Common.{rules}
use Rattle.std.proofs.Math.Option.{Option, none, some}
use Rattle.exprs.specs.declared.token.Token.{Token}
use Rattle.exprs.specs.Expr.{Expr}
use Rattle.exprs.specs.Reading.{read_expr}
use Rattle.exprs.specs.Folded.{worth_of}
use Rattle.exprs.specs.Answers.{read_of, used_by}
use Rattle.exprs.proofs.reading.read.Goals as goal

bytes_alone : {W : Type 0} (leaf : Token → W) (negated : W → W) (joined : Token → W → W → W) (o : Option Expr)
    → option_map (λ (v : W × ℕ). v.1) (worth_of leaf negated joined o) ≡ used_by o
unfolding worth_of used_by
bytes_alone leaf negated joined none = refl
bytes_alone leaf negated joined (some e) = refl

pub returns : goal.returns
unfolding read_of
returns c =
    let bytes : c.map.result ≡ option_map (λ v. v.1) c.evaluate.result = search rules in
    bytes ∙ ap (option_map (λ v. v.1)) c.evaluate.ensures ∙ bytes_alone _ _ _ (read_expr c.args.s.now)
