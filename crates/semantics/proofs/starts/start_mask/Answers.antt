-- `start_mask`: each turn adds the rule whose start part is met. From the laws of the set of those that pass a test.
use Rattle.std.proofs.Common.{sym, ap, ◌∙◌}
use Rattle.sets.specs.Sets.{with}
use Rattle.sets.specs.Laws.Gathered.{set_of_more, set_of_same_more}
use Rattle.semantics.proofs.starts.start_mask.Goals as goal
use Rattle.semantics.proofs.starts.start_mask.Goals.{then-meets_start, else-meets_start}

pub loop-i-preserved : goal.loop-i-preserved
loop-i-preserved c =
    elim c.if-meets_start.branch [
      | then-meets_start w ↦
          ap (λ m. m.0) w.met-is ∙ w.with-met.ensures ∙ ap (λ n. with n c.loop-i.i) c.loop-i.invariant
          ∙ set_of_more c.loop-i.i _ (sym c.meets_start.ensures ∙ w.if-meets_start.true)
      | else-meets_start w ↦ ap (λ m. m.0) w.met-is ∙ c.loop-i.invariant ∙ set_of_same_more c.loop-i.i _ (sym c.meets_start.ensures ∙ w.if-meets_start.false)
    ]
