-- What `first_in` gives is the first listed set that is meant, and `None` where there is none; tests that agree on every set of two bytes find the
-- same. By induction on the list, two bytes at a time.
use Prim.Native.Nat.{ℕ, zero, suc, ◌+◌, ◌*◌, ◌≤◌, ◌<◌}
use Rattle.std.specs.Prelude.{◌≡◌, ◌↔◌, Bool, true, false, cond, Option, Some, None, length, get_or, drop}
use Rattle.std.proofs.Math.Path.{refl, ap}
use Rattle.std.proofs.Common.{sym, ◌∙◌, true≢false, arith, length-drop, drop-cons}
use mathlib.Core.List.{List, [], ◌∷◌}
use Rattle.sets.specs.Laws.Choice.{by_test}
use Rattle.lookup.specs.Search.{first_from, first_in, set_at_byte, Stands, StandsFirst, NoneStands}

-- ---- the search as it goes on

-- It goes on two bytes at a time.
pub first_step : (q : ℕ → Bool) (list : List ℕ) (place : ℕ) → suc place < length list
    → first_from q place (drop place list) ≡ cond (q (set_at_byte list place)) (Some place) (first_from q (suc (suc place)) (drop (suc (suc place)) list))
unfolding first_from set_at_byte
first_step q list place h = rw (drop-cons list place 0 (omega arith), drop-cons list (suc place) 0 (omega arith))

-- It ends where fewer than two bytes are left.
pub first_end : (q : ℕ → Bool) (list : List ℕ) (place : ℕ) → length list ≤ suc place → first_from q place (drop place list) ≡ None
unfolding first_from
first_end q list place h = go (drop place list) (omega (arith, length-drop place list))
  where
    go : (rest : List ℕ) → length rest < 2 → first_from q place rest ≡ None
    go [] l = refl
    go (odd ∷ []) l = refl
    go (low ∷ high ∷ rest) l = absurd (omega arith)

-- Tests that agree on every set of two bytes find the same.
pub first_agree : (p q : ℕ → Bool) (place : ℕ) → ((S : ℕ) → S < 65536 → p S ≡ q S)
    → (list : List ℕ) → ((i : ℕ) → get_or list i 0 < 256) → first_from p place list ≡ first_from q place list
unfolding first_from
first_agree p q place e [] f = refl
first_agree p q place e (odd ∷ []) f = refl
first_agree p q place e (low ∷ high ∷ rest) f =
    rw (e (low + 256 * high) (omega (arith, f 0, f 1)), first_agree p q (suc (suc place)) e rest (λ i. f (suc (suc i))))

-- ---- the first listed set that is meant

at_same : {place other : ℕ} → Some place ≡ Some other → place ≡ other
at_same e = cc

nowhere_at : {place : ℕ} → ¬ (None ≡ Some place)
nowhere_at e = let z : ◌≡◌ {A = ℕ} 0 1 = cc in omega arith

-- There is one first place.
pub one_place : {P : ℕ → Type 0} {list : List ℕ} {place other : ℕ} → StandsFirst P list place → StandsFirst P list other → place ≡ other
one_place {place = place} {other = other} s t =
    let a : ¬ (place < other) = λ l. t.none_before place l s.there in
    let b : ¬ (other < place) = λ l. s.none_before other l t.there in
    omega arith

-- Behind a set, another stands two places further on than it does without it.
module _ {P : ℕ → Type 0} {low high : ℕ} {rest : List ℕ} {place : ℕ} where
  pub behind : Stands P rest place → Stands P (low ∷ high ∷ rest) (suc (suc place))
  unfolding set_at_byte
  behind s = record { even = omega (arith, s.even); within = omega (arith, s.within); itself = s.itself }

  pub ahead_of : Stands P (low ∷ high ∷ rest) (suc (suc place)) → Stands P rest place
  unfolding set_at_byte
  ahead_of s = record { even = omega (arith, s.even); within = omega (arith, s.within); itself = s.itself }

module _ (q : ℕ → Bool) (P : ℕ → Type 0) (means : (S : ℕ) → (q S ≡ true) ↔ P S) where
  -- What is found in the bytes of a list from place n on.
  data Tells (n : ℕ) (list : List ℕ) (f : Option ℕ) : Type 0 where
    told : (place : ℕ) → f ≡ Some (n + place) → StandsFirst P list place → Tells n list f
    none : f ≡ None → NoneStands P list → Tells n list f

  -- A list whose first set is not P.
  module _ {low high : ℕ} {rest : List ℕ} (passed : q (low + 256 * high) ≡ false) where
    ahead : (place : ℕ) → Stands P (low ∷ high ∷ rest) place → (before : ℕ) × (place ≡ suc (suc before)) × Stands P rest before
    unfolding set_at_byte
    ahead zero s = absurd (true≢false (sym ((means (low + 256 * high)).1 s.itself) ∙ passed))
    ahead (suc zero) s = absurd (omega (arith, s.even))
    ahead (suc (suc before)) s =
        (before, refl, ahead_of s)

    further : (n : ℕ) (f : Option ℕ) → Tells (suc (suc n)) rest f → Tells n (low ∷ high ∷ rest) f
    further n f (told place e s) =
        told (suc (suc place)) (e ∙ ap Some (omega arith)) (record {
          there = behind s.there;
          none_before = λ before l t. let a = ahead before t in s.none_before a.0 (omega (arith, a.1)) a.2;
        })
    further n f (none e s) = none e (λ place t. let a = ahead place t in s a.0 a.2)

  tells : (n : ℕ) (list : List ℕ) → Tells n list (first_from q n list)
  unfolding first_from set_at_byte
  tells n [] = none refl (λ place s. absurd (omega (arith, s.within)))
  tells n (odd ∷ []) = none refl (λ place s. absurd (omega (arith, s.within)))
  tells n (low ∷ high ∷ rest) =
      by_test (Tells n (low ∷ high ∷ rest)) (q (low + 256 * high))
      (λ e. told 0 (ap Some (omega arith)) (record {
        there = record { even = omega arith; within = omega arith; itself = (means (low + 256 * high)).0 e };
        none_before = λ before l. absurd (omega arith);
      }))
      (λ e. further e n _ (tells (suc (suc n)) rest))

  pub found_iff : (list : List ℕ) (place : ℕ) → (first_in q list ≡ Some place) ↔ StandsFirst P list place
  unfolding first_in
  found_iff list place = go (first_from q 0 list) (tells 0 list)
    where
      go : (f : Option ℕ) → Tells 0 list f → (f ≡ Some place) ↔ StandsFirst P list place
      go f (told other e s) = (
        λ a. let same : other ≡ place = omega (arith, at_same (sym e ∙ a)) in rw same at s,
        λ t. e ∙ ap Some (omega (arith, one_place s t)),
      )
      go f (none e s) = (λ a. absurd (nowhere_at (sym e ∙ a)), λ t. absurd (s place t.there))

  pub nowhere_iff : (list : List ℕ) → (first_in q list ≡ None) ↔ NoneStands P list
  unfolding first_in
  nowhere_iff list = go (first_from q 0 list) (tells 0 list)
    where
      go : (f : Option ℕ) → Tells 0 list f → (f ≡ None) ↔ NoneStands P list
      go f (told other e s) = (λ a. absurd (nowhere_at (sym a ∙ e)), λ n. absurd (n other s.there))
      go f (none e s) = (λ a. s, λ n. e)
