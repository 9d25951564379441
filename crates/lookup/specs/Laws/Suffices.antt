-- What two lists say of a set is what is said to be there, however it is told. From the laws of the search, by the four ways in which a set can be
-- looked up. Assumes nothing.
use Rattle.std.specs.Prelude.{ℕ, ◌+◌, ◌%◌, ◌^◌, ◌≡◌, ◌↔◌, true, false, ◌||◌, Option, Some, None, List, eqb, length}
use Rattle.std.proofs.Math.Path.{refl, ap₂}
use Rattle.std.proofs.Common.{sym, ap, ◌∙◌, arith, eqb-true}
use Rattle.std.proofs.Math.Bool.{Bool, cond}
use Rattle.std.proofs.lemmas.Bool.{eqb-false}
use Rattle.sets.specs.Sets.{◌⊑◌, Shares, part, apart}
use Rattle.sets.specs.Laws.Sets.{part_iff, apart_tells}
use Rattle.refusals.specs.Answers.{Answer, RefusedBy, Given}
use Rattle.lookup.specs.declared.answer.Suffices.{Suffices}
use Rattle.lookup.specs.declared.answer.Suffices.TheVariants.{CoreInside, CutApart, Unlisted}
use Rattle.lookup.specs.Search.{first_in, StandsFirst, NoneStands}
use Rattle.lookup.specs.Suffices.{said_by, looked_up, odd_count, suffices_answer, SufficesTelling, by_answer, EvenCounts, SaidOf}
use Rattle.lookup.specs.Laws.Search.{found_iff, nowhere_iff, one_place}

-- ---- the four ways

-- A set is looked up in one of four ways, told by t.
pub data Ways {A : Type 0} (t : SufficesTelling A) (S : ℕ) (cores cuts : List ℕ) (answer : A) : Type 0 where
  odd_way : ¬ EvenCounts cores cuts → answer ≡ t.odd → Ways t S cores cuts answer
  inside_way : EvenCounts cores cuts → (place : ℕ) → StandsFirst (λ C. C ⊑ S) cores place → answer ≡ t.inside place → Ways t S cores cuts answer
  apart_way : EvenCounts cores cuts → NoneStands (λ C. C ⊑ S) cores → (place : ℕ) → StandsFirst (λ C. ¬ Shares C S) cuts place
      → answer ≡ t.apart place → Ways t S cores cuts answer
  unlisted_way : EvenCounts cores cuts → NoneStands (λ C. C ⊑ S) cores → NoneStands (λ C. ¬ Shares C S) cuts
      → answer ≡ t.unlisted → Ways t S cores cuts answer

module _ (S : ℕ) (cores cuts : List ℕ) where
  looked_ways : EvenCounts cores cuts → suffices_answer S cores cuts ≡ Given (looked_up S cores cuts) → Ways by_answer S cores cuts (suffices_answer S cores cuts)
  unfolding by_answer looked_up said_by
  looked_ways even e = by_core (first_in (λ C. part C S) cores) refl (first_in (λ C. apart C S) cuts) refl
    where
      by_core : (core : Option ℕ) → first_in (λ C. part C S) cores ≡ core → (cut : Option ℕ) → first_in (λ C. apart C S) cuts ≡ cut
          → Ways by_answer S cores cuts (suffices_answer S cores cuts)
      by_core (Some place) p cut q =
          inside_way even place ((found_iff _ _ (λ C. part_iff C S) cores place).0 p) (e ∙ ap₂ (λ (a b : Option ℕ). Given (said_by a b)) p q)
      by_core None p (Some place) q =
          apart_way even ((nowhere_iff _ _ (λ C. part_iff C S) cores).0 p) place ((found_iff _ _ (λ C. apart_tells C S) cuts place).0 q)
          (e ∙ ap₂ (λ (a b : Option ℕ). Given (said_by a b)) p q)
      by_core None p None q =
          unlisted_way even ((nowhere_iff _ _ (λ C. part_iff C S) cores).0 p) ((nowhere_iff _ _ (λ C. apart_tells C S) cuts).0 q)
          (e ∙ ap₂ (λ (a b : Option ℕ). Given (said_by a b)) p q)

  pub ways : Ways by_answer S cores cuts (suffices_answer S cores cuts)
  unfolding suffices_answer odd_count by_answer
  ways = go (eqb (length cores % 2) 1) refl (eqb (length cuts % 2) 1) refl
    where
      tested : Bool → Bool → Answer Suffices
      tested a b = cond (a || b) (RefusedBy 12 0) (Given (looked_up S cores cuts))

      go : (a : Bool) → eqb (length cores % 2) 1 ≡ a → (b : Bool) → eqb (length cuts % 2) 1 ≡ b → Ways by_answer S cores cuts (suffices_answer S cores cuts)
      go true p b q = odd_way (λ even. omega (arith, even.of_cores, eqb-true (length cores % 2) 1 p)) (ap₂ tested p q)
      go false p true q = odd_way (λ even. omega (arith, even.of_cuts, eqb-true (length cuts % 2) 1 q)) (ap₂ tested p q)
      go false p false q =
          looked_ways (record { of_cores = omega (arith, eqb-false (length cores % 2) 1 p); of_cuts = omega (arith, eqb-false (length cuts % 2) 1 q) }) (ap₂ tested p q)

-- ---- what is said

-- A code and a place by which the answers of a telling are told apart.
pub record ToldApart {A : Type 0} (t : SufficesTelling A) (code place : A → ℕ) : Type 0 where
  pub odd : code t.odd ≡ 12
  pub inside : (p : ℕ) → code (t.inside p) ≡ 65536 + 2 ^ 40
  pub apart : (p : ℕ) → code (t.apart p) ≡ 131072
  pub unlisted : code t.unlisted ≡ 0
  pub inside_at : (p : ℕ) → place (t.inside p) ≡ p
  pub apart_at : (p : ℕ) → place (t.apart p) ≡ p

-- By its code, an answer is not told in two ways.
coded : {A : Type 0} (code : A → ℕ) {answer a : A} {n : ℕ} → answer ≡ a → code a ≡ n → code answer ≡ n
coded code e c = ap code e ∙ c

module _ {A : Type 0} {t : SufficesTelling A} {code place : A → ℕ} (d : ToldApart t code place) {S : ℕ} {cores cuts : List ℕ} {answer : A} where
  odd_said : Ways t S cores cuts answer → (answer ≡ t.odd) ↔ (¬ EvenCounts cores cuts)
  odd_said (odd_way n e) = (λ _. n, λ _. e)
  odd_said (inside_way v p s e) = (λ q. absurd (omega (arith, coded code q d.odd, coded code e (d.inside p))), λ n. absurd (n v))
  odd_said (apart_way v n p s e) = (λ q. absurd (omega (arith, coded code q d.odd, coded code e (d.apart p))), λ n. absurd (n v))
  odd_said (unlisted_way v n m e) = (λ q. absurd (omega (arith, coded code q d.odd, coded code e d.unlisted)), λ n. absurd (n v))

  inside_said : Ways t S cores cuts answer → (at : ℕ) → (answer ≡ t.inside at) ↔ (EvenCounts cores cuts × StandsFirst (λ C. C ⊑ S) cores at)
  inside_said (odd_way n e) at = (λ q. absurd (omega (arith, coded code q (d.inside at), coded code e d.odd)), λ f. absurd (n f.0))
  inside_said (inside_way v p s e) at = (
    λ q. let same : p ≡ at = sym (d.inside_at p) ∙ ap place (sym e ∙ q) ∙ d.inside_at at in (v, rw same at s),
    λ f. e ∙ ap t.inside (one_place s f.1),
  )
  inside_said (apart_way v n p s e) at = (λ q. absurd (omega (arith, coded code q (d.inside at), coded code e (d.apart p))), λ f. absurd (n at f.1.there))
  inside_said (unlisted_way v n m e) at = (λ q. absurd (omega (arith, coded code q (d.inside at), coded code e d.unlisted)), λ f. absurd (n at f.1.there))

  apart_said : Ways t S cores cuts answer → (at : ℕ)
      → (answer ≡ t.apart at) ↔ (EvenCounts cores cuts × NoneStands (λ C. C ⊑ S) cores × StandsFirst (λ C. ¬ Shares C S) cuts at)
  apart_said (odd_way n e) at = (λ q. absurd (omega (arith, coded code q (d.apart at), coded code e d.odd)), λ f. absurd (n f.0))
  apart_said (inside_way v p s e) at = (λ q. absurd (omega (arith, coded code q (d.apart at), coded code e (d.inside p))), λ f. absurd (f.1 p s.there))
  apart_said (apart_way v n p s e) at = (
    λ q. let same : p ≡ at = sym (d.apart_at p) ∙ ap place (sym e ∙ q) ∙ d.apart_at at in (v, n, rw same at s),
    λ f. e ∙ ap t.apart (one_place s f.2),
  )
  apart_said (unlisted_way v n m e) at = (λ q. absurd (omega (arith, coded code q (d.apart at), coded code e d.unlisted)), λ f. absurd (m at f.2.there))

  unlisted_said : Ways t S cores cuts answer
      → (answer ≡ t.unlisted) ↔ (EvenCounts cores cuts × NoneStands (λ C. C ⊑ S) cores × NoneStands (λ C. ¬ Shares C S) cuts)
  unlisted_said (odd_way n e) = (λ q. absurd (omega (arith, coded code q d.unlisted, coded code e d.odd)), λ f. absurd (n f.0))
  unlisted_said (inside_way v p s e) = (λ q. absurd (omega (arith, coded code q d.unlisted, coded code e (d.inside p))), λ f. absurd (f.1 p s.there))
  unlisted_said (apart_way v n p s e) = (λ q. absurd (omega (arith, coded code q d.unlisted, coded code e (d.apart p))), λ f. absurd (f.2 p s.there))
  unlisted_said (unlisted_way v n m e) = (λ _. (v, n, m), λ _. e)

  pub said_of : Ways t S cores cuts answer → SaidOf t S cores cuts answer
  said_of w = record { odd = odd_said w; inside = inside_said w; apart = apart_said w; unlisted = unlisted_said w }

-- The answer itself tells them apart.
code_of : Answer Suffices → ℕ
code_of (RefusedBy number line) = number
code_of (Given (CoreInside place)) = 65536 + 2 ^ 40
code_of (Given (CutApart place)) = 131072
code_of (Given Unlisted) = 0

place_of : Answer Suffices → ℕ
place_of (RefusedBy number line) = 0
place_of (Given (CoreInside place)) = place
place_of (Given (CutApart place)) = place
place_of (Given Unlisted) = 0

pub answer_said : (S : ℕ) (cores cuts : List ℕ) → SaidOf by_answer S cores cuts (suffices_answer S cores cuts)
unfolding by_answer code_of place_of
answer_said S cores cuts = said_of {code = code_of} {place = place_of}
    (record { odd = refl; inside = λ p. refl; apart = λ p. refl; unlisted = refl; inside_at = λ p. refl; apart_at = λ p. refl })
    (ways S cores cuts)
