-- What is lent to a closure that answers by the filled masks and tables of a model, and by bytes over which its answer goes.
-- From what is filled (`TablesOf`). These are definitions.
use Rattle.std.specs.Prelude.{ℕ, ◌≡◌, List}
use denote.Ref.{MutBor}
use Rattle.systems.specs.declared.systems.Systems.{Systems}
use Rattle.semantics.specs.declared.model_text.ModelText.{ModelText}
use Rattle.semantics.specs.TablesOf.{Filled}

-- The closure may be called, by what is filled from the text and over such bytes.
pub record TakesSystems (pre : Systems → MutBor (List ℕ) → Type 0) (m : ModelText) (lent : List ℕ) : Type 0 where
  pub at : (s : Systems) (bytes : MutBor (List ℕ)) → Filled m s → bytes.now ≡ lent → pre s bytes

-- So called, it may answer r, and leave other bytes behind.
pub record AnswersBySystems {R : Type 0} (post : Systems → MutBor (List ℕ) → R → MutBor (List ℕ) → Type 0) (m : ModelText) (lent : List ℕ) (r : R) (lent' : List ℕ) : Type 0 where
  pub systems : Systems
  pub filled : Filled m systems
  pub shown : MutBor (List ℕ)
  pub shows : shown.now ≡ lent
  pub left : MutBor (List ℕ)
  pub answered : post systems shown r left
  pub leaves : left.now ≡ lent'
