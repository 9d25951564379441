-- The digits that the library writes are the number's decimal form.
use Rattle.std.proofs.Common.{ℕ, zero, suc, ◌/◌, ◌%◌, ◌+◌, ◌-◌, ◌^◌, ◌≤◌, ◌<◌, ◌≡◌, refl, ap, ◌∙◌, List, [], ◌∷◌, ◌++◌, arith, pow-suc, sub-one}
use Rattle.std.specs.Fmt as fmt
use Rattle.std.proofs.lemmas.Fmt.{decimal_by_steps}
use Rattle.lines.specs.Decimal.{decimal}
use Rattle.lines.specs.Laws.Decimal.{spelled}
use Rattle.pages.specs.Laws.Putting.{put_as}
use Rattle.pages.proofs.page.Page.put_decimal.Goals as goal

-- so many of the last digits of a number
abbrev last : ℕ → ℕ → List ℕ
last zero n = []
last (suc k) n = last k (n / 10) ++ (48 + n % 10) ∷ []

-- What is written is the fewest digits that hold the number.
record Fewest (n : ℕ) (digits : List ℕ) : Type 0 where
  count : ℕ
  some : 1 ≤ count
  holds : n < 10 ^ count
  least : 1 < count → 10 ^ (count - 1) ≤ n
  are_last : digits ≡ last count n

one : (n : ℕ) → n < 10 → Fewest n ((48 + n) ∷ [])
one n h =
    record { count = 1; some = omega arith; holds = omega arith; least = λ l. absurd (omega arith); are_last = ap (λ (d : ℕ). (48 + d) ∷ []) (omega arith) }

at_least : (count n : ℕ) → 10 ≤ n → (1 < count → 10 ^ (count - 1) ≤ n / 10) → 1 ≤ count → 10 ^ count ≤ n
at_least zero n h least some = absurd (omega arith)
at_least (suc zero) n h least some = omega arith
at_least (suc (suc k)) n h least some =
    let before : 10 ^ suc k ≤ n / 10 = rw sub-one at (least (omega arith)) in
    omega (arith, before, pow-suc 10 (suc k))

more : (n : ℕ) (digits : List ℕ) → 10 ≤ n → Fewest (n / 10) digits → Fewest n (digits ++ (48 + n % 10) ∷ [])
more n digits h f =
    record {
      count = suc f.count;
      some = omega arith;
      holds = omega (arith, f.holds, pow-suc 10 f.count);
      least = λ _. rw sub-one (at_least f.count n h f.least f.some);
      are_last = ap (λ ds. ds ++ (48 + n % 10) ∷ []) f.are_last;
    }

spelt : (n : ℕ) → n < 2 ^ 64 → fmt.decimal n ≡ decimal n
spelt n small =
    let f = decimal_by_steps Fewest one more n small in
    f.are_last ∙ spelled f.count n f.some f.holds f.least last (λ m. refl) (λ j m. refl)

pub returns : goal.returns
returns c = put_as _ _ _ _ c.put.ensures (c.as_bytes.ensures.value ∙ c.format.ensures.text ∙ spelt _ (omega arith))
