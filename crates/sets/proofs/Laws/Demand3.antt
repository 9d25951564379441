-- Demand 3 is true of the core list, the cut list and MUST of every monotone judgement.
-- From the lists having exactly the cores and the cuts, the duality, and the edges.
use Rattle.std.specs.Prelude.{ℕ, Bool}
use Rattle.sets.specs.Cores.{Monotone}
use Rattle.sets.specs.Lists.{cores_of, cuts_of, must_of}
use Rattle.sets.specs.Demand3.{Demand3}
use Rattle.sets.specs.Laws.Listed.{cores_of_lists, cuts_of_lists}
use Rattle.sets.proofs.Laws.Duality.{duality}
use Rattle.sets.specs.Laws.Edges.{full_broken, empty_holds}

pub demand3 : (R : ℕ) (h : ℕ → Bool) → Monotone R h → Demand3 R h (cores_of R h) (cuts_of R h) (must_of R h)
demand3 R h mono =
    let d = duality R h mono in
    record {
      core_list = cores_of_lists R h;
      cut_list = cuts_of_lists R h;
      cuts_hit_cores = d.cuts;
      cores_hit_cuts = d.cores;
      must_alone = d.alone;
      must_in_every = d.every_core;
      full_broken = full_broken R h mono;
      empty_holds = empty_holds R h mono;
    }
