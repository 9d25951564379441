-- The call is refused by the first fitting number of document 01: the reading refuses a text by a number at a line exactly when this number fits
-- there and none that comes before it fits, and accepts a text exactly when no number fits. Texts at which two
-- numbers fit show the order. From the laws of the reading.
use Rattle.std.specs.Prelude.{ℕ, ◌≡◌, refl, ◌↔◌}
use Rattle.std.proofs.Common.{ap₂, subst₂}
use mathlib.Core.List.{List, Memᴰ}
use Rattle.refusals.specs.Answers.{Outcome, Accepted, Refused, outcome_of}
use Rattle.models.specs.Reading.{read_model}
use Rattle.models.specs.Refusals.{FitsAt, First}
use Rattle.models.specs.Overlaps.{Overlap, overlaps, Overlapping}
use Rattle.models.proofs.Laws.Overlaps.{overlaps_hold}
use Rattle.models.proofs.Laws.Refusals.{RightOutcome, none_fits, first_fits, right_outcome, one_first}

-- a text is refused by a number at a line exactly when this is the first that fits
pub refused_by_the_first : (text : List ℕ) (number line : ℕ) → (outcome_of (read_model text) ≡ Refused number line) ↔ First text number line
refused_by_the_first text number line = (λ q. there (right_outcome text) q, λ f. back (right_outcome text) f)
  where
    there : {o : Outcome} → RightOutcome text o → o ≡ Refused number line → First text number line
    there (none_fits f) q = cc
    there (first_fits {number = m} {line = k} f) q =
        let a : m ≡ number = cc in
        let b : k ≡ line = cc in
        subst₂ (First text) a b f

    back : {o : Outcome} → RightOutcome text o → First text number line → o ≡ Refused number line
    back (none_fits f) g = absurd (f number line g.fits)
    back (first_fits f) g = let e = one_first f g in ap₂ Refused e.0 e.1

-- a text is accepted exactly when no number fits anywhere
pub accepted_where_none_fits : (text : List ℕ) → (outcome_of (read_model text) ≡ Accepted) ↔ ((number line : ℕ) → ¬ FitsAt text number line)
accepted_where_none_fits text = (λ q. there (right_outcome text) q, λ f. back (right_outcome text) f)
  where
    there : {o : Outcome} → RightOutcome text o → o ≡ Accepted → (number line : ℕ) → ¬ FitsAt text number line
    there (none_fits f) q = f
    there (first_fits f) q = λ _ _ _. cc

    back : {o : Outcome} → RightOutcome text o → ((number line : ℕ) → ¬ FitsAt text number line) → o ≡ Accepted
    back (none_fits f) g = refl
    back (first_fits {number} {line} f) g = absurd (g number line f.fits)

-- in each row of the table the text is refused by the number that comes first, and the other fits too
pub overlapping : (c : Overlap) → Memᴰ c overlaps → Overlapping c
overlapping = overlaps_hold
