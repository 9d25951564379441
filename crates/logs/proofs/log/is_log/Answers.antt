-- Each byte is looked at, and there is one. Assumes nothing.
use Rattle.std.proofs.Common.{ℕ, zero, suc, ◌≡◌, refl, ap, ◌∙◌, not, false, ◌&&◌, ◌||◌, eqb, leb, ltb, sym, lt-ltb, arith, rules}
use Rattle.std.proofs.Math.Dec.{eqb-suc-zero}
use Rattle.std.proofs.Math.Path.{ap₂}
use Rattle.std.proofs.lemmas.Iterator.{YieldsList-from_slice}
use Rattle.std.proofs.lemmas.Iterator.Consumers.{fold_from_yields_List}
use Rattle.systems.specs.Laws.Least.{fold_any}
use Rattle.logs.specs.Log.{is_log}
use Rattle.logs.proofs.log.is_log.Goals as goal

positive : (n : ℕ) → not (eqb n 0) ≡ ltb 0 n
positive zero = refl
positive (suc n) = ap not (eqb-suc-zero n) ∙ sym (lt-ltb 0 (suc n) (omega arith))

pub returns : goal.returns
unfolding is_log
returns c =
    ap₂ (λ some beyond. some && not beyond) (ap not c.is_empty.ensures ∙ positive _)
    (fold_from_yields_List _ (λ beyond state. beyond || leb c.args.states state) false c.fold-beyond.result c.fold-beyond.ensures.ran
    (YieldsList-from_slice c.args.log.now (cc)) (λ a x b q k. search rules)
    ∙ fold_any (leb c.args.states) c.args.log.now)
