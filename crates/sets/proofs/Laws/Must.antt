-- MUST has exactly the rules that all cores have in common, and no rule if there is no core.
-- From what a meet of sets has, and from the core list having exactly the cores.
use Rattle.std.specs.Prelude.{ℕ, ◌^◌, ◌<◌, ◌≡◌, refl, ◌↔◌, Bool, true, List, [], ◌∷◌}
use mathlib.Core.List.Memᴰ
use Rattle.std.specs.Int.Bits.{bit_and}
use Rattle.std.proofs.Common.{lt_of_le_ones}
use Rattle.sets.specs.Bit.{has, full}
use Rattle.sets.specs.Laws.Bit.{has_and, has_le, has_zero, has_below, has_full}
use Rattle.sets.specs.Cores.{Core}
use Rattle.sets.specs.Lists.{cores_of, meet, common, must_of}
use Rattle.sets.specs.Demand3.{◌∈◌}
use Rattle.sets.specs.Laws.Listed.{cores_of_lists}

-- Rule i is in MUST: there is a core, and every core has rule i.
pub record Must (R : ℕ) (h : ℕ → Bool) (i : ℕ) : Type 0 where
  pub a_core : (S : ℕ) × (S < 2 ^ R) × Core h S
  pub in_every : (S : ℕ) → S < 2 ^ R → Core h S → has S i ≡ true

all_cons : (i : ℕ) {S : ℕ} {l : List ℕ} → has S i ≡ true → ((T : ℕ) → T ∈ l → has T i ≡ true) → (T : ℕ) → T ∈ S ∷ l → has T i ≡ true
all_cons i s f T (Memᴰ.head e) = rw e s
all_cons i s f T (Memᴰ.tail m) = f T m

has_meet : (l : List ℕ) (S i : ℕ) → (has (meet S l) i ≡ true) ↔ ((T : ℕ) → T ∈ S ∷ l → has T i ≡ true)
unfolding meet
has_meet [] S i =
    (λ e. all_cons i e (λ T m. absurd (Memᴰ.not-nil m)), λ f. f S (Memᴰ.head refl))
has_meet (U ∷ l) S i = (
  λ e.
      let f = (has_meet l (bit_and S U) i).0 e in
      let both = (has_and S U i).0 (f (bit_and S U) (Memᴰ.head refl)) in
      all_cons i both.0 (all_cons i both.1 (λ T m. f T (Memᴰ.tail m))),
  λ f.
      (has_meet l (bit_and S U) i).1
      (all_cons i ((has_and S U i).1 (f S (Memᴰ.head refl), f U (Memᴰ.tail (Memᴰ.head refl))))
      (λ T m. f T (Memᴰ.tail (Memᴰ.tail m)))),
)

pub has_common : (l : List ℕ) (i : ℕ)
    → (has (common l) i ≡ true) ↔ (((S : ℕ) × (S ∈ l)) × ((T : ℕ) → T ∈ l → has T i ≡ true))
unfolding common
has_common [] i = (λ e. absurd (has_zero i e), λ p. absurd (Memᴰ.not-nil p.0.1))
has_common (S ∷ l) i = (λ e. ((S, Memᴰ.head refl), (has_meet l S i).0 e), λ p. (has_meet l S i).1 p.1)

-- MUST has exactly the rules that all cores have in common, where there is a core.
pub must_iff : (R : ℕ) (h : ℕ → Bool) (i : ℕ) → (has (must_of R h) i ≡ true) ↔ Must R h i
unfolding must_of
must_iff R h i = (
  λ e.
      let r = (has_common (cores_of R h) i).0 e in
      let k = cores_of_lists R h in
      let c = k.only r.0.0 r.0.1 in
      record { a_core = (r.0.0, c.rules, c.itself); in_every = λ S l c. r.1 S (k.each S (record { rules = l; itself = c })) },
  λ m.
      let k = cores_of_lists R h in
      let c = m.a_core in
      (has_common (cores_of R h) i).1
      ((c.0, k.each c.0 (record { rules = c.1; itself = c.2 })), λ T t. let d = k.only T t in m.in_every T d.rules d.itself),
)

pub must_below : (R : ℕ) (h : ℕ → Bool) → must_of R h < 2 ^ R
must_below R h =
    lt_of_le_ones R
    (has_le (must_of R h) (full R)
    (λ i e.
    let m = (must_iff R h i).0 e in
    let c = m.a_core in
    (has_full R i).1 (has_below R c.0 i c.1 (m.in_every c.0 c.1 c.2))))
