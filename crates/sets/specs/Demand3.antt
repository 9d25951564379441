-- Demand 3 of the mission for R rules and any judgement h of their sets: what it says of a core list, a cut list and MUST.
-- A named part for each sentence of documents 00 and 01. The theorem is in proofs/Laws/Demand3: for a monotone judgement all of it is true of the
-- lists in `Lists`. Assumes nothing: these are definitions.
use Rattle.std.specs.Prelude.{ℕ, ◌^◌, ◌<◌, ◌≡◌, ◌↔◌, Bool, true, false, length, get_or}
use mathlib.Core.List.{List, [], ◌∷◌, Memᴰ}
use Rattle.sets.specs.Bit.{has, full}
use Rattle.sets.specs.Sets.{Shares, Before}
use Rattle.sets.specs.Cores.{Least, Core, Cut}

-- ---- a list of sets

infix 50 ◌∈◌
-- S is in the list l.
abbrev pub ◌∈◌ : ℕ → List ℕ → Type 0
S ∈ l = Memᴰ S l

-- The list l has each set that is P exactly once and nothing else: fewer rules first, then by number.
pub record Lists (l : List ℕ) (P : ℕ → Type 0) : Type 0 where
  pub each : (S : ℕ) → P S → S ∈ l
  pub only : (S : ℕ) → S ∈ l → P S
  pub once : (i j : ℕ) → i < length l → j < length l → get_or l i 0 ≡ get_or l j 0 → i ≡ j
  pub order : (i j : ℕ) → i < j → j < length l → Before (get_or l i 0) (get_or l j 0)

-- The sets of R rules that are P.
pub record Among (R : ℕ) (P : ℕ → Type 0) (S : ℕ) : Type 0 where
  pub rules : S < 2 ^ R
  pub itself : P S

-- ---- how the lists meet

-- S is a hitting set of the sets of R rules that are P: it shares a rule with every one of them.
pub record Hits (R : ℕ) (P : ℕ → Type 0) (S : ℕ) : Type 0 where
  pub meets : (T : ℕ) → T < 2 ^ R → P T → Shares S T

-- There is no core, the one cut is set 0, and MUST is set 0.
pub record FullBroken (cores cuts : List ℕ) (must : ℕ) : Type 0 where
  pub no_core : cores ≡ []
  pub one_cut : cuts ≡ 0 ∷ []
  pub no_must : must ≡ 0

-- Set 0 is the one core, and there is no cut.
pub record EmptyHolds (cores cuts : List ℕ) : Type 0 where
  pub one_core : cores ≡ 0 ∷ []
  pub no_cut : cuts ≡ []

-- ---- the demand

pub record Demand3 (R : ℕ) (h : ℕ → Bool) (cores cuts : List ℕ) (must : ℕ) : Type 0 where
  -- The core list has each core exactly once and nothing else.
  pub core_list : Lists cores (Among R (Core h))
  -- The cut list has each cut exactly once and nothing else.
  pub cut_list : Lists cuts (Among R (Cut R h))
  -- A set of rules is a cut exactly when it shares a rule with every core and no proper part of it shares a rule with every core.
  pub cuts_hit_cores : (S : ℕ) → S < 2 ^ R → Cut R h S ↔ Least (Hits R (Core h)) S
  -- It is a core exactly when it shares a rule with every cut and no proper part of it shares a rule with every cut.
  pub cores_hit_cuts : (S : ℕ) → S < 2 ^ R → Core h S ↔ Least (Hits R (Cut R h)) S
  -- The MUST rules are exactly those that form a cut alone.
  pub must_alone : (i : ℕ) → (has must i ≡ true) ↔ ((i < R) × Cut R h (2 ^ i))
  -- Where the property holds, these are exactly the rules in every core.
  pub must_in_every : h (full R) ≡ true → (i : ℕ) → (has must i ≡ true) ↔ ((C : ℕ) → C < 2 ^ R → Core h C → has C i ≡ true)
  -- If the full set is broken, there is no core, the one cut is set 0 and MUST is set 0.
  pub full_broken : h (full R) ≡ false → FullBroken cores cuts must
  -- If set 0 holds, it is the one core and there is no cut.
  pub empty_holds : h 0 ≡ true → EmptyHolds cores cuts
