-- By masks and tables a set holds if a part of it does: more rules have fewer start states and fewer steps. From the laws of parts and of systems
-- compared. Assumes nothing.
use Rattle.std.specs.Prelude.{ℕ, ◌+◌, ◌*◌, ◌≡◌, refl, true, List, eqb, get_or}
use Rattle.std.proofs.Common.{◌∙◌, ap}
use Rattle.std.proofs.lemmas.Nat.{and_comm}
use mathlib.Core.Bool.{and-eq-true_iff}
use Rattle.sets.specs.Sets.{◌⊑◌, part}
use Rattle.sets.specs.Laws.Sets.{part_iff, part_trans}
use Rattle.sets.specs.Cores.{Monotone}
use Rattle.systems.specs.declared.tables.Tables.{Tables}
use Rattle.systems.specs.ByTables.{mark_at, step_by, start_by, system_by, judge_by}
use Rattle.systems.specs.Laws.Compare.{Part, part_holds}

module _ (masks : List ℕ) (t : Tables) {S T : ℕ} (p : S ⊑ T) where
  -- What meets the rules of a set meets those of its parts.
  fewer_met : (u v : ℕ) → step_by masks T u v ≡ true → step_by masks S u v ≡ true
  unfolding step_by part
  fewer_met u v e =
      let mask = get_or masks (128 * u + v) 0 in
      let all : T ⊑ mask = (part_iff T mask).0 (ap (λ m. eqb m T) (and_comm T mask) ∙ e) in
      ap (λ m. eqb m S) (and_comm mask S) ∙ (part_iff S mask).1 (part_trans p all)

  larger_part : Part (system_by masks t T) (system_by masks t S)
  unfolding system_by start_by
  larger_part = record {
    size = refl;
    start = λ s _ e.
        let both = (and-eq-true_iff (mark_at t.init s) (step_by masks T t.states s)).0 e in
        (and-eq-true_iff (mark_at t.init s) (step_by masks S t.states s)).1 (both.0, fewer_met t.states s both.1);
    step = λ u v _ _ e. fewer_met u v e;
    bad = λ s _ e. e;
  }

pub tables_monotone : (masks : List ℕ) (t : Tables) → Monotone t.rules (judge_by masks t)
unfolding judge_by
tables_monotone masks t = record { more = λ S T _ p. part_holds (larger_part masks t p) }
