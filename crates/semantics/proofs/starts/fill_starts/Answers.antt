-- `fill_starts`: without start parts every state meets all of them; else each turn fills the next entry. From the laws of start parts and of a list that is filled
-- from the front on.
use Rattle.std.proofs.Common.{arith, rules, ◌≡◌, ◌∙◌, sym, length}
use Rattle.std.specs.Prelude.{replicate}
use Rattle.sets.specs.Laws.Tabulated.{all_alike}
use Rattle.semantics.proofs.Laws.Places.{all_met}
use Rattle.semantics.proofs.Filling.{one_filled}
use Rattle.semantics.proofs.starts.fill_starts.Goals as goal

pub loop-s-preserved : goal.loop-s-preserved
loop-s-preserved c = one_filled _ _ _ _ c.loop-s.invariant _ (omega arith) c.start_mask.ensures

pub returns-then-none_has : goal.returns-then-none_has
returns-then-none_has c =
    let e : c.fill.new.self ≡ replicate (length c.args.row.now) c.full.result.0 = search rules in
    e ∙ all_alike (length c.args.row.now) c.full.result.0 _ (λ s _. c.full.ensures ∙ all_met c.args.rules.text.now c.args.rules.parts.now (sym c.none_has.ensures ∙ c.if-none_has.true) s)
