-- The table of `Overlaps`, computed: the reading of each text, and the numbers that fit at the other line. By computation, and the law of numbers.
use Rattle.std.specs.Prelude.{ℕ, ◌≡◌, refl, Bool, true, false, ◌||◌, eqb}
use Rattle.std.proofs.Common.{ap, eqb-true}
use Rattle.std.proofs.lemmas.Bool.{false≢true}
use mathlib.Core.List.{List, [], ◌∷◌, map, Memᴰ}
use Rattle.exprs.specs.Token.{token_of}
use Rattle.exprs.specs.Expr.{size}
use Rattle.lines.specs.Bytes.{belongs}
use Rattle.refusals.specs.Answers.{Outcome, Refused, outcome_of}
use Rattle.models.specs.Reading.{read_model}
use Rattle.models.specs.Overlaps.{Overlap, overlaps, Overlapping}
use Rattle.models.specs.Laws.Numbers.{numbers_on, numbers_fit}
use Rattle.models.specs.Laws.Tables.{map_agree}

is_member : ℕ → List ℕ → Bool
is_member m [] = false
is_member m (x ∷ l) = eqb m x || is_member m l

is_member_lem : (m : ℕ) (l : List ℕ) → is_member m l ≡ true → Memᴰ m l
unfolding is_member
is_member_lem m [] h = absurd (false≢true h)
is_member_lem m (x ∷ l) h = go (eqb m x) refl (is_member_lem m l) h
  where
    go : (t : Bool) → eqb m x ≡ t → (is_member m l ≡ true → Memᴰ m l) → (t || is_member m l) ≡ true → Memᴰ m (x ∷ l)
    go true e f h = Memᴰ.head (eqb-true m x e)
    go false e f h = Memᴰ.tail (f h)

-- What is computed from a row, and what it expects.
record Found : Type 0 where
  outcome : Outcome
  also : Bool

computed : Overlap → Found
unfolding read_model numbers_on is_member
computed c = record { outcome = outcome_of (read_model c.text); also = is_member c.other (numbers_on c.text c.other_line) }

expected : Overlap → Found
expected c = record { outcome = Refused c.number c.line; also = true }

computes : map computed overlaps ≡ map expected overlaps
unfolding computed expected overlaps belongs token_of size
computes = refl

pub overlaps_hold : (c : Overlap) → Memᴰ c overlaps → Overlapping c
unfolding computed expected
overlaps_hold c m =
    let e = map_agree computed expected overlaps computes c m in
    record {
      refused = ap (λ x. x.outcome) e;
      also = numbers_fit c.text c.other_line c.other (is_member_lem c.other (numbers_on c.text c.other_line) (ap (λ x. x.also) e));
    }
