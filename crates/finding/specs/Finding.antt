-- What is found of the sets of a model's rules, tables that mark its cores and its cuts; and what is lent to a closure that answers by these tables, and
-- by bytes over which its answer goes. These are definitions.
use Rattle.std.specs.Prelude.{ℕ, ◌≡◌, Bool, List}
use denote.Ref.{MutBor}
use Rattle.sets.specs.Cores.{is_core, is_cut}
use Rattle.marks.specs.Marks.{table_by}
use Rattle.marks.specs.declared.table.MarkedSets.{MarkedSets}

-- The tables of the cores and of the cuts of R rules, whose sets the test h judges.
pub record Found (R : ℕ) (h : ℕ → Bool) (cores cuts : MarkedSets) : Type 0 where
  pub cores_rules : cores.rules ≡ R
  pub cores_are : cores.table.now ≡ table_by R (is_core h)
  pub cuts_rules : cuts.rules ≡ R
  pub cuts_are : cuts.table.now ≡ table_by R (is_cut R h)

-- The closure may be called, by what was found and over such bytes.
pub record TakesFound (pre : MarkedSets → MarkedSets → MutBor (List ℕ) → Type 0) (R : ℕ) (h : ℕ → Bool) (lent : List ℕ) : Type 0 where
  pub at : (cores cuts : MarkedSets) (bytes : MutBor (List ℕ)) → Found R h cores cuts → bytes.now ≡ lent → pre cores cuts bytes

-- So called, it may answer r, and leave other bytes behind.
pub record AnswersByFound {A : Type 0} (post : MarkedSets → MarkedSets → MutBor (List ℕ) → A → MutBor (List ℕ) → Type 0) (R : ℕ) (h : ℕ → Bool) (lent : List ℕ) (r : A) (lent' : List ℕ) : Type 0 where
  pub cores : MarkedSets
  pub cuts : MarkedSets
  pub found : Found R h cores cuts
  pub shown : MutBor (List ℕ)
  pub shows : shown.now ≡ lent
  pub left : MutBor (List ℕ)
  pub answered : post cores cuts shown r left
  pub leaves : left.now ≡ lent'
