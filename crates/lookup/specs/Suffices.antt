-- What a list of cores and a list of cuts say of a set of rules, and the witness of it. They are all that is given: no text, no model.
-- From document 02, "Quick answer in the configuration screen". Assumes nothing: these are definitions.
use Rattle.std.specs.Prelude.{ℕ, ◌%◌, ◌≡◌, ◌↔◌, Bool, cond, ◌||◌, Option, Some, None, List, [], eqb, length, take, drop}
use Rattle.sets.specs.Sets.{◌⊑◌, Shares, part, apart}
use Rattle.slices.specs.Address.{bytes_on}
use Rattle.refusals.specs.Answers.{Answer, RefusedBy, Given}
use Rattle.lookup.specs.declared.answer.Suffices.{Suffices}
use Rattle.lookup.specs.declared.answer.Suffices.TheVariants.{CoreInside, CutApart, Unlisted}
use Rattle.lookup.specs.Search.{first_in, StandsFirst, NoneStands}

-- What is said, by the first listed core inside the set and the first listed cut that has no rule in it: "the call looks for the first listed core inside
-- the set and stops there." "If none is, it looks for the first listed cut that has no rule in the set." "If neither is found, it says unlisted".
unfoldable pub said_by : Option ℕ → Option ℕ → Suffices
said_by (Some place) cut = CoreInside place
said_by None (Some place) = CutApart place
said_by None None = Unlisted

-- The set is looked up as it stands, whatever rules it has.
unfoldable pub looked_up : ℕ → List ℕ → List ℕ → Suffices
looked_up S cores cuts = said_by (first_in (λ C. part C S) cores) (first_in (λ C. apart C S) cuts)

-- "12, a list has an odd count of bytes."
unfoldable pub odd_count : List ℕ → Bool
odd_count list = eqb (length list % 2) 1

unfoldable pub suffices_answer : ℕ → List ℕ → List ℕ → Answer Suffices
suffices_answer S cores cuts = cond (odd_count cores || odd_count cuts) (RefusedBy 12 0) (Given (looked_up S cores cuts))

-- "the witness as the two bytes of the list that holds it"; unlisted and when refused, "the part has no bytes".
unfoldable pub part_said : Answer Suffices → List ℕ → List ℕ → List ℕ
part_said (RefusedBy number line) cores cuts = []
part_said (Given (CoreInside place)) cores cuts = take 2 (drop place cores)
part_said (Given (CutApart place)) cores cuts = take 2 (drop place cuts)
part_said (Given Unlisted) cores cuts = []

unfoldable pub witness_of : ℕ → List ℕ → List ℕ → List ℕ
witness_of S cores cuts = part_said (suffices_answer S cores cuts) cores cuts

-- "a part of that list and no copy": where the witness lies, of the addresses of the two lists. A part without bytes begins where the core list does.
unfoldable pub address_said : Answer Suffices → ℕ × ℕ → ℕ × ℕ → ℕ × ℕ
address_said (RefusedBy number line) cores cuts = cores
address_said (Given (CoreInside place)) cores cuts = bytes_on cores place
address_said (Given (CutApart place)) cores cuts = bytes_on cuts place
address_said (Given Unlisted) cores cuts = cores

-- ---- what is said, for any set and any two lists

-- How an answer is told: refused by 12, a core inside at a place of the core list, a cut apart at a place of the cut list, or unlisted.
pub record SufficesTelling (A : Type 0) : Type 0 where
  pub odd : A
  pub inside : ℕ → A
  pub apart : ℕ → A
  pub unlisted : A

-- By `suffices_answer`.
unfoldable pub by_answer : SufficesTelling (Answer Suffices)
by_answer = record { odd = RefusedBy 12 0; inside = λ place. Given (CoreInside place); apart = λ place. Given (CutApart place); unlisted = Given Unlisted }

-- Each list has an even count of bytes.
pub record EvenCounts (cores cuts : List ℕ) : Type 0 where
  pub of_cores : length cores % 2 ≡ 0
  pub of_cuts : length cuts % 2 ≡ 0

pub record SaidOf {A : Type 0} (t : SufficesTelling A) (S : ℕ) (cores cuts : List ℕ) (answer : A) : Type 0 where
  -- "12, a list has an odd count of bytes."
  pub odd : (answer ≡ t.odd) ↔ (¬ EvenCounts cores cuts)
  -- "the first listed core inside the set"
  pub inside : (place : ℕ) → (answer ≡ t.inside place) ↔ (EvenCounts cores cuts × StandsFirst (λ C. C ⊑ S) cores place)
  -- "If none is, it looks for the first listed cut that has no rule in the set."
  pub apart : (place : ℕ)
      → (answer ≡ t.apart place) ↔ (EvenCounts cores cuts × NoneStands (λ C. C ⊑ S) cores × StandsFirst (λ C. ¬ Shares C S) cuts place)
  -- "If neither is found, it says unlisted".
  pub unlisted : (answer ≡ t.unlisted) ↔ (EvenCounts cores cuts × NoneStands (λ C. C ⊑ S) cores × NoneStands (λ C. ¬ Shares C S) cuts)
