-- What masks and tables that were filled from a text answer is what the model means: the search of a set, what an order leaves, and what a log says.
-- From the laws of the filled tables (`semantics`) and of judgements that agree (`sets`). Assumes nothing.
use Prim.Native.Nat.{ℕ, suc, ◌^◌, ◌<◌}
use mathlib.Core.Path.{◌≡◌, ap, ◌∙◌}
use mathlib.Core.List.{List}
use native.Mathlib.Omega.{arith}
use lib.ListN.{get_or}
use Rattle.sets.specs.declared.one_core.OneCore.{OneCore}
use Rattle.sets.specs.Orders.{IsOrder}
use Rattle.sets.specs.OneCore.{one_core_of}
use Rattle.sets.proofs.Laws.OneCore.{one_core_agree}
use Rattle.systems.specs.declared.systems.Systems.{Systems}
use Rattle.systems.specs.ByTables.{mark_at, system_by, judge_by}
use Rattle.systems.specs.System.{System}
use Rattle.systems.specs.Laws.Compare.{Same}
use Rattle.semantics.specs.declared.model_text.ModelText.{ModelText}
use Rattle.semantics.specs.ByText.{described_by}
use Rattle.semantics.specs.Meaning.{start_met, step_met, bad_of, system_of, judge}
use Rattle.semantics.specs.TablesOf.{Filled}
use Rattle.semantics.proofs.Laws.Filled.{rules_are, states_are, same_verdict, same_system, mask_has, start_mask_has, bad_marked}
use Rattle.logs.specs.declared.blame.Blamed.{Blamed}
use Rattle.logs.specs.Log.{IsLog, blame_of}
use Rattle.logs.specs.ByTables.{start_met_by, step_met_by}
use Rattle.logs.proofs.Laws.Log.{blame_same}

module _ {m : ModelText} {s : Systems} (f : Filled m s) where
  -- what is the same for systems that agree on their states: the trace, and the reached states
  pub search_is : {A : Type 0} {S : ℕ} {x : A} (g : System → A) → ((N M : System) → Same N M → g N ≡ g M)
      → S < 2 ^ m.model.rules → x ≡ g (system_by s.masks.now s.tables.now S) → x ≡ g (system_of (described_by m) S)
  search_is {S = S} g same l e = e ∙ same _ _ (same_system f S l)

  -- what an order leaves
  pub its_order : {order : List ℕ} → IsOrder m.model.rules order → IsOrder s.tables.now.rules order
  its_order = rw (rules_are f) (λ o. o)

  pub one_core_is : (order : List ℕ) {c : OneCore} → c ≡ one_core_of s.tables.now.rules (judge_by s.masks.now s.tables.now) order
      → c ≡ one_core_of m.model.rules (judge (described_by m)) order
  one_core_is order e =
      e ∙ ap (λ (R : ℕ). one_core_of R (judge_by s.masks.now s.tables.now) order) (rules_are f)
      ∙ one_core_agree m.model.rules (judge_by s.masks.now s.tables.now) (judge (described_by m)) (same_verdict f) order

  -- what a log says
  pub its_log : {log : List ℕ} → IsLog (2 ^ m.model.vars) log → IsLog s.tables.now.states log
  its_log = rw (states_are f) (λ l. l)

  pub blame_is : {log : List ℕ} {b : Blamed} → IsLog (2 ^ m.model.vars) log
      → b ≡ blame_of s.tables.now.rules (start_met_by s.masks.now s.tables.now) (step_met_by s.masks.now) (mark_at s.tables.now.bad) log
      → b ≡ blame_of m.model.rules (start_met (described_by m)) (step_met (described_by m)) (bad_of (described_by m)) log
  unfolding start_met_by step_met_by
  blame_is {log} l e =
      e ∙ ap (λ (R : ℕ). blame_of R (start_met_by s.masks.now s.tables.now) (step_met_by s.masks.now) (mark_at s.tables.now.bad) log) (rules_are f)
      ∙ blame_same m.model.rules (start_met_by s.masks.now s.tables.now) (start_met (described_by m)) (step_met_by s.masks.now) (step_met (described_by m))
      (mark_at s.tables.now.bad) (bad_of (described_by m)) log
      (λ i h. start_mask_has f i (get_or log 0 0) h (l.states 0 l.nonempty))
      (λ i k h g. mask_has f i (get_or log k 0) (get_or log (suc k) 0) h (l.states k (omega arith)) (l.states (suc k) g))
      (λ k g. bad_marked f (get_or log k 0) (l.states k g))
