-- What the crates above cite of masks and tables that are filled from a text: the masks have room, each rule set has by them the system and the
-- verdict that it means, and a rule is in the masks of the pairs and states that meet it. From the laws of the tables and of systems that agree on their states. Assumes nothing.
use Rattle.std.specs.Prelude.{ℕ, ◌+◌, ◌*◌, ◌^◌, ◌≤◌, ◌<◌, ◌≡◌, List, length, get_or}
use Rattle.std.proofs.Common.{sym, ◌∙◌, arith, pow_pos}
use Rattle.std.proofs.Math.Path.{ap, subst}
use Rattle.sets.specs.Bit.{has}
use Rattle.sets.specs.Laws.Gathered.{has_set_of}
use Rattle.models.specs.Written.{described}
use Rattle.models.proofs.Laws.Written.{described_count}
use Rattle.systems.specs.declared.tables.Tables.{Tables}
use Rattle.systems.specs.declared.systems.Systems.{Systems}
use Rattle.systems.specs.Laws.Compare.{Same, same_holds}
use Rattle.systems.specs.ByTables.{mark_at, HasRoom, system_by, judge_by}
use Rattle.semantics.specs.Meaning.{start_met, bad_of, step_met, system_of, judge}
use Rattle.semantics.specs.declared.model_text.ModelText.{ModelText}
use Rattle.semantics.specs.ByText.{described_by}
use Rattle.semantics.specs.TablesOf.{mask_of, start_mask_of, masks_of, tables_of, Filled}
use Rattle.semantics.proofs.Laws.TablesOf.{states_le, length_masks, mask_at, start_mask_at, tables_same}

-- ---- room

-- What is filled has room.
module _ (m : ModelText) where
  pub filled_room : (before : List ℕ) → 128 * (2 ^ m.model.vars + 1) ≤ length before → {masks : List ℕ} {t : Tables}
      → masks ≡ masks_of before (described_by m) → t ≡ tables_of (described_by m) → HasRoom masks t
  unfolding tables_of described
  filled_room before r p q =
      rw (p, q) (record { few = states_le m.model.vars m.few.vars; room = omega (arith, length_masks before (described_by m), r) })

-- ---- what the filled masks and tables say

module _ {m : ModelText} {s : Systems} (f : Filled m s) where
  pub rules_are : s.tables.now.rules ≡ m.model.rules
  unfolding tables_of
  rules_are = ap (λ x. x.rules) f.tables_are ∙ described_count m.text.now m.model

  -- They are no more than a mask has places.
  pub few_rules : s.tables.now.rules ≤ 16
  few_rules = rw rules_are m.few.rules

  pub states_are : s.tables.now.states ≡ 2 ^ m.model.vars
  unfolding tables_of described
  states_are = ap (λ x. x.states) f.tables_are

  -- Each rule set has by them the system that it means,
  pub same_system : (S : ℕ) → S < 2 ^ m.model.rules → Same (system_by s.masks.now s.tables.now S) (system_of (described_by m) S)
  unfolding described
  same_system S h =
      rw (f.masks_are, f.tables_are)
      (tables_same f.before (described_by m) m.few.vars f.room S (subst (λ n. S < 2 ^ n) (sym (described_count m.text.now m.model)) h))

  -- and the verdict.
  pub same_verdict : (S : ℕ) → S < 2 ^ m.model.rules → judge_by s.masks.now s.tables.now S ≡ judge (described_by m) S
  unfolding judge_by judge
  same_verdict S h = same_holds (same_system S h)

  -- A rule is in the mask of a pair of states exactly when the pair meets its step part, and in the start mask of a state exactly when the state meets its
  -- start part.
  its_place : {i : ℕ} → i < m.model.rules → i < length (described_by m).rules
  its_place {i} h = subst (λ n. i < n) (sym (described_count m.text.now m.model)) h

  pub mask_has : (i u v : ℕ) → i < m.model.rules → u < 2 ^ m.model.vars → v < 2 ^ m.model.vars → has (get_or s.masks.now (128 * u + v) 0) i ≡ step_met (described_by m) i u v
  unfolding described mask_of
  mask_has i u v h a b =
      rw f.masks_are
      (ap (λ (x : ℕ). has x i) (mask_at f.before (described_by m) m.few.vars f.room u v a b)
      ∙ has_set_of (length (described_by m).rules) (λ i. step_met (described_by m) i u v) i (its_place h))

  pub start_mask_has : (i u : ℕ) → i < m.model.rules → u < 2 ^ m.model.vars → has (get_or s.masks.now (128 * s.tables.now.states + u) 0) i ≡ start_met (described_by m) i u
  unfolding described start_mask_of
  start_mask_has i u h a =
      rw (f.masks_are, states_are)
      (ap (λ (x : ℕ). has x i) (start_mask_at f.before (described_by m) m.few.vars f.room u a)
      ∙ has_set_of (length (described_by m).rules) (λ i. start_met (described_by m) i u) i (its_place h))

  -- The bad states are marked.
  pub bad_marked : (u : ℕ) → u < 2 ^ m.model.vars → mark_at s.tables.now.bad u ≡ bad_of (described_by m) u
  unfolding described system_by system_of
  bad_marked u h = (same_system 0 (pow_pos m.model.rules)).bad u (rw states_are h)
