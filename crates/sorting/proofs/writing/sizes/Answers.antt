-- `sorting::writing::sizes`: the fold notes the size of each marked set. From the bits of a union.
use Rattle.std.proofs.Common.{ℕ, ◌*◌, ◌%◌, ◌^◌, ◌<◌, ◌≡◌, refl, ◌∙◌, true, List, [], ◌∷◌, ◌++◌, inl, inr, ⊎_elim, bit_or, rules, arith}
use mathlib.Core.List.Memᴰ
use Rattle.std.proofs.Math.Pow.{shl_exact}
use Rattle.std.specs.Int.Count.{ones}
use Rattle.sets.specs.Bit.{has}
use Rattle.sets.specs.Laws.Bit.{has_or, has_one}
use Rattle.sets.specs.Demand3.{◌∈◌}
use Rattle.sets.specs.Laws.Listed.{mem_select}
use Rattle.sorting.proofs.Folded.{in_turn, folded}
use Rattle.sorting.proofs.writing.sizes.Goals as goal

-- the sizes of a list's sets are noted
abbrev AllNoted : List ℕ → ℕ → Type 0
AllNoted l noted = (S : ℕ) → S ∈ l → has noted (ones S) ≡ true

one_more : (l : List ℕ) (noted S bit : ℕ) → AllNoted l noted → bit ≡ 2 ^ ones S → AllNoted (l ++ S ∷ []) (bit_or noted bit)
one_more l noted S bit all e T m =
    ⊎_elim (λ before. (has_or noted bit (ones T)).1 (inl (all T before))) (λ here. (has_or noted bit (ones T)).1 (inr (this here))) (Memᴰ.append_cases l m)
  where
    this : T ∈ S ∷ [] → has bit (ones T) ≡ true
    this (Memᴰ.head same) = rw (e, same) ((has_one (ones S) (ones S)).1 refl)
    this (Memᴰ.tail none) = elim none [ ]

pub returns : goal.returns
returns c =
    let all = folded _ AllNoted 0 _ c.fold.ensures.ran (in_turn c.by_number.ensures)
    (λ l a x b q j k.
    let bit : b ≡ bit_or a (1 * 2 ^ ones x % 2 ^ 64) = search rules in
    let few : ones x < 64 = search rules in
    (rw bit (one_more l a x _ j (shl_exact {a = 1} 1 (ones x) 64 (omega arith) (omega (arith, few)) ∙ omega arith)), search rules))
    (λ S none. elim none [ ]) in
    record { each = λ S l m. all S ((mem_select _ _ S).1 (l, m)) }
