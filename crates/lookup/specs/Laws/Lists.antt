-- In the core list and the cut list of any monotone judgement, a set that holds has a core inside and a broken one has a cut apart, and no set of the
-- rules is unlisted. From the duality of cores and cuts (`sets`), and from where the sets of a list stand in its bytes.
use Prim.Native.Nat.{ℕ, zero, suc, ◌^◌, ◌≤◌, ◌<◌}
use Rattle.std.specs.Prelude.{◌≡◌, ◌↔◌, Bool, true, false, Option, Some, None}
use Rattle.std.proofs.Math.Path.{refl, sym}
use Rattle.std.proofs.Common.{◌∙◌, true≢false, arith, pow_mono}
use mathlib.Core.List.Memᴰ
use mathlib.Core.List.{List, [], ◌∷◌}
use Rattle.sets.specs.Sets.{◌⊑◌, Shares, part, apart}
use Rattle.sets.specs.Laws.Sets.{part_iff, apart_tells}
use Rattle.sets.specs.Cores.{Monotone}
use Rattle.sets.specs.Lists.{bytes_of, cores_of, cuts_of}
use Rattle.sets.specs.Laws.Lists.{length_bytes_of}
use Rattle.sets.specs.Demand3.{◌∈◌}
use Rattle.sets.specs.Laws.Listed.{cores_of_lists, cuts_of_lists}
use Rattle.sets.proofs.Laws.Duality.{duality}
use Rattle.lookup.specs.Search.{first_in, set_at_byte, Stands, StandsFirst, NoneStands}
use Rattle.lookup.specs.Suffices.{SufficesTelling, EvenCounts, SaidOf}
use Rattle.lookup.specs.Laws.Search.{behind, ahead_of, found_iff, nowhere_iff}

-- ---- where a listed set stands

-- The two bytes of a set give it back.
two_bytes : (S : ℕ) (l : List ℕ) → S < 65536 → set_at_byte (bytes_of (S ∷ l)) 0 ≡ S
unfolding set_at_byte bytes_of
two_bytes S l h = omega arith

module _ (P : ℕ → Type 0) where
  pub stands : (l : List ℕ) → ((C : ℕ) → C ∈ l → C < 65536) → (C : ℕ) → C ∈ l → P C → (place : ℕ) × Stands P (bytes_of l) place
  unfolding bytes_of
  stands [] small C m p = elim m [ ]
  stands (S ∷ l) small C (Memᴰ.head e) p =
      (0, record { even = refl; within = omega (arith, length_bytes_of (S ∷ l)); itself = rw (two_bytes S l (small S (Memᴰ.head refl)), sym e) p })
  stands (S ∷ l) small C (Memᴰ.tail m) p =
      let r = stands l (λ D n. small D (Memᴰ.tail n)) C m p in
      (suc (suc r.0), behind r.1)

  -- What stands there is a listed set.
  pub is_listed : (l : List ℕ) → ((C : ℕ) → C ∈ l → C < 65536) → (place : ℕ) → Stands P (bytes_of l) place → (C : ℕ) × (C ∈ l) × P C
  unfolding set_at_byte bytes_of
  is_listed [] small place s = absurd (omega (arith, s.within))
  is_listed (S ∷ l) small zero s = (S, Memᴰ.head refl, rw (two_bytes S l (small S (Memᴰ.head refl))) at s.itself)
  is_listed (S ∷ l) small (suc zero) s = absurd (omega (arith, s.even))
  is_listed (S ∷ l) small (suc (suc place)) s =
      let r = is_listed l (λ D n. small D (Memᴰ.tail n)) place (ahead_of s) in
      (r.0, Memᴰ.tail r.1, r.2)

-- Where a set that is P stands, there is a first one.
a_first : (q : ℕ → Bool) (P : ℕ → Type 0) → ((S : ℕ) → (q S ≡ true) ↔ P S) → (list : List ℕ) (place : ℕ) → Stands P list place
    → (first : ℕ) × StandsFirst P list first
a_first q P means list place s = go (first_in q list) refl
  where
    go : (f : Option ℕ) → first_in q list ≡ f → (first : ℕ) × StandsFirst P list first
    go (Some first) e = (first, (found_iff q P means list first).0 e)
    go None e = absurd ((nowhere_iff q P means list).0 e place s)

-- ---- the lists of a judgement

module _ (R : ℕ) (h : ℕ → Bool) (few : R ≤ 16) where
  pub core_small : (C : ℕ) → C ∈ cores_of R h → C < 65536
  core_small C m = omega (arith, ((cores_of_lists R h).only C m).rules, pow_mono few)

  pub cut_small : (C : ℕ) → C ∈ cuts_of R h → C < 65536
  cut_small C m = omega (arith, ((cuts_of_lists R h).only C m).rules, pow_mono few)

  even_lists : EvenCounts (bytes_of (cores_of R h)) (bytes_of (cuts_of R h))
  even_lists = record {
    of_cores = omega (arith, length_bytes_of (cores_of R h));
    of_cuts = omega (arith, length_bytes_of (cuts_of R h));
  }

  module _ (mono : Monotone R h) (S : ℕ) (rules : S < 2 ^ R) where
    -- A core is inside a set that holds.
    held_inside : h S ≡ true → (place : ℕ) × StandsFirst (λ C. C ⊑ S) (bytes_of (cores_of R h)) place
    held_inside e =
        let c = ((duality R h mono).inside S rules).0 e in
        let s = stands (λ C. C ⊑ S) (cores_of R h) core_small c.0 ((cores_of_lists R h).each c.0 (record { rules = c.1; itself = c.2 })) c.3 in
        a_first (λ C. part C S) (λ C. C ⊑ S) (λ C. part_iff C S) (bytes_of (cores_of R h)) s.0 s.1

    -- No core is inside a broken set, and a cut is apart from it.
    broken_none : h S ≡ false → NoneStands (λ C. C ⊑ S) (bytes_of (cores_of R h))
    broken_none e place s =
        let c = is_listed (λ C. C ⊑ S) (cores_of R h) core_small place s in
        let a = (cores_of_lists R h).only c.0 c.1 in
        true≢false (sym (((duality R h mono).inside S rules).1 (c.0, a.rules, a.itself, c.2)) ∙ e)

    broken_apart : h S ≡ false → (place : ℕ) × StandsFirst (λ C. ¬ Shares C S) (bytes_of (cuts_of R h)) place
    broken_apart e =
        let c = ((duality R h mono).apart S rules).0 e in
        let s = stands (λ C. ¬ Shares C S) (cuts_of R h) cut_small c.0 ((cuts_of_lists R h).each c.0 (record { rules = c.1; itself = c.2 })) c.3 in
        a_first (λ C. apart C S) (λ C. ¬ Shares C S) (λ C. apart_tells C S) (bytes_of (cuts_of R h)) s.0 s.1

    module _ {A : Type 0} {t : SufficesTelling A} {answer : A} (said : SaidOf t S (bytes_of (cores_of R h)) (bytes_of (cuts_of R h)) answer) where
      pub held_said : h S ≡ true → (place : ℕ) × (answer ≡ t.inside place)
      held_said e = let f = held_inside e in (f.0, (said.inside f.0).1 (even_lists, f.1))

      pub broken_said : h S ≡ false → (place : ℕ) × (answer ≡ t.apart place)
      broken_said e = let f = broken_apart e in (f.0, (said.apart f.0).1 (even_lists, broken_none e, f.1))
