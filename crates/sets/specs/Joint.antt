-- Several judgements of rule sets together, any number of them: the judgement by all, and how its cores come from the cores by each.
-- From document 02, "Several properties together". The theorem is in proofs/Laws/Joint: for monotone judgements all of `JointCores` is true.
-- Assumes nothing: these are definitions.
use Rattle.std.specs.Prelude.{ℕ, ◌↔◌, Bool}
use mathlib.Core.List.{List, [], ◌∷◌, Memᴰ}
use Rattle.std.specs.Int.Bits.{bit_or}
use Rattle.sets.specs.Cores.{Least, Core}
use Rattle.sets.specs.Lists.{cores_of}
use Rattle.sets.specs.Renumbered.{all_pass}
use Rattle.sets.specs.Demand3.{Lists, Among}

-- Every entry of a list is P.
abbrev pub Each : {A : Type 0} → (A → Type 0) → List A → Type 0
Each {A} P l = (x : A) → Memᴰ x l → P x

-- The conjunction of a list of judgements: a set holds if it holds by each.
unfoldable pub joint : List (ℕ → Bool) → ℕ → Bool
unfolding all_pass
joint hs S = all_pass (λ h. h S) hs

-- A union of one core from each judgement of a list, all of R rules.
pub data UnionOfCores (R : ℕ) : List (ℕ → Bool) → ℕ → Type 0 where
  no_judgement : UnionOfCores R [] 0
  one_more : {h : ℕ → Bool} {hs : List (ℕ → Bool)} {C U : ℕ} → Among R (Core h) C → UnionOfCores R hs U → UnionOfCores R (h ∷ hs) (bit_or C U)

-- What the cores of R rules are for a conjunction of judgements.
pub record JointCores (R : ℕ) (hs : List (ℕ → Bool)) : Type 0 where
  -- A set is a core of the conjunction exactly when it is a union of one core from each and no other such union is a proper part of it.
  pub cores : (S : ℕ) → Among R (Core (joint hs)) S ↔ Least (UnionOfCores R hs) S
  -- The core list has each such union exactly once and nothing else.
  pub core_list : Lists (cores_of R (joint hs)) (Least (UnionOfCores R hs))
