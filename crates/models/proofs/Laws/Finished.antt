-- What the whole text gives after its rule lines, by cases: the number of a line that is refused comes before 9, and 9 before acceptance. The theorem
-- about the first number that fits (`Rattle.models.proofs.Refused`) rests on this for their order. From the definition of `finished`.
use Rattle.std.specs.Prelude.{ℕ, ◌≤◌, ◌<◌, ◌≡◌, refl, List, length}
use Rattle.std.proofs.Common.{sym, subst, arith}
use Rattle.std.proofs.Math.Decide.{dec_lt}
use borrow.Author.Tests.{lt-ltb, le-ltb}
use Rattle.refusals.specs.Answers.{Answer, RefusedBy, Given}
use Rattle.bodies.specs.declared.progress.Progress.{Progress}
use Rattle.models.specs.declared.model.Model.{Model}
use Rattle.models.specs.Reading.{model_found, finished}

module _ (text : List ℕ) (vars rules init properties : ℕ) (body : Answer Progress) where
  -- The text is refused by a number of the lines behind `init`, by 9, or accepted, the first of these that fits.
  pub record LastNumbers (answer : Answer Model) : Type 0 where
    pub by_rule : (number line : ℕ) → body ≡ RefusedBy number line → answer ≡ RefusedBy number line
    pub by_nine : (r : Progress) → body ≡ Given r → r.place.at < length text → answer ≡ RefusedBy 9 r.place.line
    pub by_none : (r : Progress) → body ≡ Given r → length text ≤ r.place.at → answer ≡ Given (model_found vars rules init properties r)

  pub last_numbers : LastNumbers (finished text vars rules init properties body)
  unfolding finished
  last_numbers = record {
    by_rule = λ number line e. rw e;
    by_nine = λ r e h. rw (e, lt-ltb r.place.at (length text) h);
    by_none = λ r e h. rw (e, le-ltb r.place.at (length text) h);
  }

  -- what is true in each of these cases is true of the answer
  pub by_last : (P : Answer Model → Type 0) → ((number line : ℕ) → body ≡ RefusedBy number line → P (RefusedBy number line))
      → ((r : Progress) → body ≡ Given r → r.place.at < length text → P (RefusedBy 9 r.place.line))
      → ((r : Progress) → body ≡ Given r → length text ≤ r.place.at → P (Given (model_found vars rules init properties r)))
      → P (finished text vars rules init properties body)
  by_last P rule nine none = go body refl
    where
      ends : (r : Progress) → body ≡ Given r → Dec (r.place.at < length text) → P (finished text vars rules init properties body)
      ends r e (yes f) = subst P (sym (last_numbers.by_nine r e f)) (nine r e f)
      ends r e (no f) = subst P (sym (last_numbers.by_none r e (omega arith))) (none r e (omega arith))

      go : (a : Answer Progress) → body ≡ a → P (finished text vars rules init properties body)
      go (RefusedBy number line) e = subst P (sym (last_numbers.by_rule number line e)) (rule number line e)
      go (Given r) e = ends r e (dec_lt r.place.at (length text))
