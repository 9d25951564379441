-- How the sets of a monotone judgement are gone over: of which sets nothing is known yet, and which cores and cuts have been found. The first
-- set by number of which nothing is known is the seed: if it holds it is a core, and otherwise it grows to a broken set with no rule to spare,
-- which leaves a cut. These are definitions; what they say is proved in `Laws/Seeds`.
use Rattle.std.specs.Prelude.{ℕ, ◌+◌, ◌-◌, ◌*◌, ◌/◌, ◌^◌, ◌≤◌, ◌<◌, ◌≡◌, Bool, true, false, List, length}
use Rattle.sets.specs.Bit.{has, full}
use Rattle.sets.specs.Sets.{◌⊑◌, with}
use Rattle.sets.specs.Cores.{Core, Cut, is_core, is_cut}
use Rattle.marks.specs.Marks.{marked, NonePast, Marks}

-- What is known of the sets of R rules that h judges. `unknown` tells of which sets nothing is known yet; `cores` and `cuts` tell what was found.
pub record Known (R : ℕ) (h unknown cores cuts : ℕ → Bool) : Type 0 where
  -- A set that is known to hold: so are those above it. A set that is known to be broken: so are its parts.
  pub held_up : (S T : ℕ) → T < 2 ^ R → S ⊑ T → unknown S ≡ false → h S ≡ true → unknown T ≡ false
  pub broken_down : (S T : ℕ) → S < 2 ^ R → T ⊑ S → unknown S ≡ false → h S ≡ false → unknown T ≡ false
  -- A set that is known to hold contains a core that was found, and a set that is known to be broken lacks the rules of a cut that was found.
  pub has_core : (S : ℕ) → S < 2 ^ R → unknown S ≡ false → h S ≡ true → (C : ℕ) × (C ⊑ S) × (cores C ≡ true)
  pub lacks_cut : (S : ℕ) → S < 2 ^ R → unknown S ≡ false → h S ≡ false → (T : ℕ) × (T < 2 ^ R) × (S ⊑ T) × (cuts (full R - T) ≡ true)
  -- What was found is right.
  pub are_cores : (S : ℕ) → S < 2 ^ R → cores S ≡ true → Core h S
  pub are_cuts : (S : ℕ) → S < 2 ^ R → cuts S ≡ true → Cut R h S

-- The first set by number of which nothing is known.
pub record Seed (R : ℕ) (unknown : ℕ → Bool) (S : ℕ) : Type 0 where
  pub below : S < 2 ^ R
  pub itself : unknown S ≡ true
  pub first : (T : ℕ) → T < S → unknown T ≡ false

-- Rule i can be added to set S, and the table has a place for the larger set.
pub record Addable (unknown : List ℕ) (S i : ℕ) : Type 0 where
  pub rule : i < 16
  pub place : with S i < 64 * length unknown

-- A broken set of R rules, above which something is known only of sets that hold.
pub record Growable (R : ℕ) (h : ℕ → Bool) (unknown : List ℕ) (S : ℕ) : Type 0 where
  pub few : R ≤ 16
  pub room : 2 ^ R ≤ 64 * length unknown
  pub broken : h S ≡ false
  pub below : S < 2 ^ R
  pub known : (T : ℕ) → T < 2 ^ R → S ⊑ T → marked unknown T ≡ false → h T ≡ true

-- A broken set of R rules above S, to which none of the first i rules can be added so that it stays broken.
pub record Grown (R : ℕ) (h : ℕ → Bool) (S i T : ℕ) : Type 0 where
  pub broken : h T ≡ false
  pub above : S ⊑ T
  pub below : T < 2 ^ R
  pub most : (j : ℕ) → j < i → has T j ≡ false → h (with T j) ≡ true

-- What is known, by tables that have room for the sets of R rules.
pub record Going (R : ℕ) (h : ℕ → Bool) (unknown cores cuts : List ℕ) : Type 0 where
  pub few : R ≤ 16
  pub room_unknown : 2 ^ R ≤ 64 * length unknown
  pub room_cores : 2 ^ R ≤ 64 * length cores
  pub room_cuts : 2 ^ R ≤ 64 * length cuts
  pub past_unknown : NonePast R unknown
  pub past_cores : NonePast R cores
  pub past_cuts : NonePast R cuts
  pub known : Known R h (marked unknown) (marked cores) (marked cuts)

-- Set S has been settled.
pub record Settled (R : ℕ) (h : ℕ → Bool) (S : ℕ) (unknown unknown' cores' cuts' : List ℕ) : Type 0 where
  pub going : Going R h unknown' cores' cuts'
  pub itself : marked unknown' S ≡ false
  pub stays : (T : ℕ) → T < 2 ^ R → marked unknown T ≡ false → marked unknown' T ≡ false

-- Nothing is known of any set of R rules, and no core or cut is marked.
pub record Fresh (R : ℕ) (unknown cores cuts : List ℕ) : Type 0 where
  pub all_unknown : Marks R (λ S. true) unknown
  pub no_cores : Marks R (λ S. false) cores
  pub no_cuts : Marks R (λ S. false) cuts

-- Something is known of every set, and all cores and all cuts are marked.
pub record AllFound (R : ℕ) (h : ℕ → Bool) (unknown cores cuts : List ℕ) : Type 0 where
  pub none_unknown : Marks R (λ S. false) unknown
  pub all_cores : Marks R (is_core h) cores
  pub all_cuts : Marks R (is_cut R h) cuts

-- At most 16 rules, and as many words for each table of sets as its marks take; the words may be any.
pub record Findable (R : ℕ) (unknown cores cuts : List ℕ) : Type 0 where
  pub few : R ≤ 16
  pub in_unknown : length unknown ≡ (2 ^ R + 63) / 64
  pub in_cores : length cores ≡ (2 ^ R + 63) / 64
  pub in_cuts : length cuts ≡ (2 ^ R + 63) / 64

-- The set `all` is the full set of R rules, and it holds.
pub record FullHolds (R : ℕ) (h : ℕ → Bool) (all : ℕ) : Type 0 where
  pub few : R ≤ 16
  pub itself : all ≡ full R
  pub holds : h (full R) ≡ true
