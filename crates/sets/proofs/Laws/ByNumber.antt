-- What the sets of a list have together, and what they have in common: when one more set follows, and the same of a list by number as of the list by size.
-- From what such a set has, rule by rule.
use Rattle.std.specs.Prelude.{ℕ, ◌^◌, ◌<◌, ◌≡◌, refl, ◌↔◌, ◌≢◌, Bool, true, List, [], ◌∷◌, ◌++◌}
use Rattle.std.proofs.Common.{sym, ap, ◌∙◌, inl, inr, ⊎_elim, lt_of_le_ones}
use Rattle.std.proofs.Math.Logic.Iff
use Rattle.std.proofs.Math.Bool.{or_assoc}
use mathlib.Core.List.Memᴰ
use Rattle.std.specs.Int.Bits.{bit_and, bit_or}
use Rattle.std.proofs.lemmas.Nat.{or_comm}
use Rattle.sets.specs.Bit.{has, full}
use Rattle.sets.specs.Laws.Bit.{has_or, has_le, has_zero, has_below, has_full}
use Rattle.sets.specs.Laws.Gathered.{or_has}
use Rattle.sets.specs.Sets.{◌⊑◌}
use Rattle.sets.specs.Laws.Sets.{part_antisym}
use Rattle.sets.specs.Demand3.{◌∈◌}
use Rattle.sets.specs.Lists.{select, list_of, meet, common}
use Rattle.sets.specs.Laws.Listed.{mem_select, mem_list_of}
use Rattle.sets.proofs.Laws.Must.{has_common}
use Rattle.sets.specs.Kinds.{together}

-- Sets with the same rules are the same.
pub same_rules : {S T : ℕ} → ((i : ℕ) → (has S i ≡ true) ↔ (has T i ≡ true)) → S ≡ T
same_rules f = part_antisym (record { every = λ i. (f i).0 }) (record { every = λ i. (f i).1 })

pub has_together : (l : List ℕ) (i : ℕ) → (has (together l) i ≡ true) ↔ ((S : ℕ) × (S ∈ l) × (has S i ≡ true))
unfolding together
has_together [] i = (λ e. absurd (has_zero i e), λ p. absurd (Memᴰ.not-nil p.1))
has_together (S ∷ l) i = (
  λ e.
      ⊎_elim (λ m. (S, Memᴰ.head refl, m)) (λ m. let r = (has_together l i).0 m in (r.0, Memᴰ.tail r.1, r.2))
      ((has_or S (together l) i).0 e),
  λ p.
      (has_or S (together l) i).1
      (⊎_elim (λ e. inl (rw e at p.2)) (λ m. inr ((has_together l i).1 (p.0, m, p.2))) (Memᴰ.cases_cons p.1)),
)

-- What they have in common they have together.
pub common_together : (l : List ℕ) → common l ⊑ together l
common_together l =
    record { every = λ i e. let r = (has_common l i).0 e in (has_together l i).1 (r.0.0, r.0.1, r.1 r.0.0 r.0.1) }

-- Sets of R rules have together only such rules.
pub together_below : (R : ℕ) (l : List ℕ) → ((S : ℕ) → S ∈ l → S < 2 ^ R) → together l < 2 ^ R
together_below R l h =
    lt_of_le_ones R
    (has_le (together l) (full R) (λ i e. let r = (has_together l i).0 e in (has_full R i).1 (has_below R r.0 i (h r.0 r.1) r.2)))

-- ---- one more set

bit_or_assoc : (S T U : ℕ) → bit_or S (bit_or T U) ≡ bit_or (bit_or S T) U
bit_or_assoc S T U =
    same_rules
    (λ i.
    let e : has (bit_or S (bit_or T U)) i ≡ has (bit_or (bit_or S T) U) i = rw (or_has S (bit_or T U) i, or_has T U i, or_has (bit_or S T) U i, or_has S T i) (sym (or_assoc (has S i) (has T i) (has U i))) in
    (λ h. sym e ∙ h, λ h. e ∙ h))

pub together_more : (l : List ℕ) (S : ℕ) → together (l ++ S ∷ []) ≡ bit_or (together l) S
unfolding together
together_more [] S = or_comm S 0
together_more (T ∷ l) S = ap (bit_or T) (together_more l S) ∙ bit_or_assoc T (together l) S

meet_more : (l : List ℕ) (S T : ℕ) → meet S (l ++ T ∷ []) ≡ bit_and (meet S l) T
unfolding meet
meet_more [] S T = refl
meet_more (U ∷ l) S T = meet_more l (bit_and S U) T

pub common_more : (l : List ℕ) (S : ℕ) → l ≢ [] → common (l ++ S ∷ []) ≡ bit_and (common l) S
unfolding common
common_more [] S some = absurd (some refl)
common_more (T ∷ l) S some = meet_more l T S

-- ---- by number and by size

module _ (R : ℕ) (q : ℕ → Bool) where
  same_sets : (S : ℕ) → (S ∈ select q (2 ^ R)) ↔ (S ∈ list_of R q)
  same_sets S = Iff.trans (mem_select q (2 ^ R) S) (Iff.symm (mem_list_of R q S))

  pub together_by_number : together (select q (2 ^ R)) ≡ together (list_of R q)
  together_by_number =
      same_rules
      (λ i. (
        λ e. let r = (has_together (select q (2 ^ R)) i).0 e in (has_together (list_of R q) i).1 (r.0, (same_sets r.0).0 r.1, r.2),
        λ e. let r = (has_together (list_of R q) i).0 e in (has_together (select q (2 ^ R)) i).1 (r.0, (same_sets r.0).1 r.1, r.2),
      ))

  pub common_by_number : common (select q (2 ^ R)) ≡ common (list_of R q)
  common_by_number =
      same_rules
      (λ i. (
        λ e.
            let r = (has_common (select q (2 ^ R)) i).0 e in
            (has_common (list_of R q) i).1 ((r.0.0, (same_sets r.0.0).0 r.0.1), λ T t. r.1 T ((same_sets T).1 t)),
        λ e.
            let r = (has_common (list_of R q) i).0 e in
            (has_common (select q (2 ^ R)) i).1 ((r.0.0, (same_sets r.0.0).1 r.0.1), λ T t. r.1 T ((same_sets T).0 t)),
      ))
