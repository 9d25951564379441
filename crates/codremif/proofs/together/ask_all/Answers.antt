-- `codremif::together::ask_all` meets its contract: each call gives what it promises, and for an accepted text that is demand 3.
-- Assumes nothing.
use Rattle.std.proofs.Common.{ℕ, ◌≡◌, List}
use Rattle.refusals.specs.Answers.{answer_of}
use Rattle.sorting.specs.declared.which.WhichList.TheVariants.{Cores, Cuts}
use Rattle.sorting.specs.declared.kinds.Kind.TheVariants.{Must}
use Rattle.calls.specs.Answers.{list_answer, list_bytes, kind_answer}
use Rattle.codremif.specs.declared.together.Together.{Together}
use Rattle.codremif.specs.Demand3.{AsCalled, asked}
use Rattle.codremif.specs.Laws.Demand3.{calls_meet_demand3}
use Rattle.codremif.proofs.together.ask_all.Goals as goal

-- what was asked is what the three calls give
called : (text cores_lent cores_bytes cuts_lent cuts_bytes : List ℕ) (r : Together) → answer_of r.cores ≡ list_answer Cores text cores_lent → cores_bytes ≡ list_bytes Cores text cores_lent
    → answer_of r.cuts ≡ list_answer Cuts text cuts_lent → cuts_bytes ≡ list_bytes Cuts text cuts_lent → answer_of r.must ≡ kind_answer Must text
    → AsCalled text (asked r cores_lent cores_bytes cuts_lent cuts_bytes)
unfolding asked
called text cores_lent cores_bytes cuts_lent cuts_bytes r a b c d e = record { cores = a; cores_written = b; cuts = c; cuts_written = d; must = e }

pub returns-clause-as_called : goal.returns-clause-as_called
returns-clause-as_called c =
    called _ _ _ _ _ _ c.list-cores.ensures.value c.list-cores.ensures.lent_after c.list-cuts.ensures.value c.list-cuts.ensures.lent_after c.give_must-must.ensures

pub returns-clause-text_demand3 : goal.returns-clause-text_demand3
returns-clause-text_demand3 c accepted =
    calls_meet_demand3 _ accepted
    (called _ _ _ _ _ _ c.list-cores.ensures.value c.list-cores.ensures.lent_after c.list-cuts.ensures.value c.list-cuts.ensures.lent_after c.give_must-must.ensures)
