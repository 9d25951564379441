-- Rules that are in no core may go: the rules that U keeps, numbered anew, have the same cores, cuts, MUST and MAY, by their old numbers.
-- From the sets of what is kept being the parts of U, in the order of the lists: a least set is least by its old numbers, and there is one
-- list of the sets. For the cuts, what U lacks makes no difference to a judgement whose cores are all parts of U.
use Rattle.std.specs.Prelude.{ℕ, ◌-◌, ◌^◌, ◌<◌, ◌≡◌, refl, ◌↔◌, Bool, true, false, List, [], ◌∷◌, map}
use Rattle.std.proofs.Math.Path.{sym, ap}
use Rattle.std.proofs.Common.{ap₂, ◌∙◌, arith}
use Rattle.std.proofs.Math.Logic.Iff
use Rattle.std.proofs.Math.Nat.{sub_self}
use Rattle.std.specs.Int.Bits.{bit_and, bit_or}
use Rattle.std.specs.Int.Count.{ones}
use Rattle.std.proofs.Math.Pow.{pow_pos}
use Rattle.sets.specs.Laws.Choice.{alike}
use Rattle.sets.specs.Bit.{full}
use Rattle.sets.specs.Laws.Bit.{has_below, has_rest}
use Rattle.sets.specs.Sets.{◌⊑◌}
use Rattle.sets.specs.Laws.Sets.{part_le, part_trans, has_less}
use Rattle.sets.specs.Cores.{Least, Core, Cut, Monotone}
use Rattle.sets.specs.Laws.Cores.{least_agree}
use Rattle.sets.specs.Demand3.{Lists, Among}
use Rattle.sets.specs.Lists.{cores_of, cuts_of, meet, common, must_of}
use Rattle.sets.specs.Laws.Listed.{cores_of_lists, cuts_of_lists}
use Rattle.sets.proofs.Laws.Duality.{duality}
use Rattle.sets.specs.Kinds.{together, some_of, may_of, irrelevant_of}
use Rattle.sets.proofs.Laws.Kinds.{some_below, core_some, must_some, irrelevant_below, some_less_must, full_less_some, in_core_iff_in_cut}
use Rattle.sets.specs.Renumbered.{spread, renumbered}
use Rattle.sets.specs.Laws.Kept.{spread_below, spread_part, spread_more, spread_reflects, spread_injective, spread_onto, spread_before, spread_zero, spread_and, spread_or, spread_minus, spread_rest}
use Rattle.sets.specs.Laws.OneList.{one_list, lists_map}

-- ---- least sets and lists of them, by their old numbers

module _ (R U : ℕ) (small : U < 2 ^ R) where
  least_renumbered : (P : ℕ → Type 0) (S : ℕ) → S < 2 ^ ones U → Least (λ T. P (spread R U T)) S ↔ Least P (spread R U S)
  least_renumbered P S l = (
    λ k. record {
      itself = k.itself;
      no_part = λ T p t.
          let r = spread_onto R U T small (part_trans p.within (spread_part R U S)) in
          k.no_part r.0
          (record {
            within = spread_reflects R U r.0 S small r.1 (rw r.2 p.within);
            other = λ e. p.other (sym r.2 ∙ ap (spread R U) e);
          })
          (rw r.2 t);
    },
    λ k. record {
      itself = k.itself;
      no_part = λ T p t.
          k.no_part (spread R U T)
          (record {
            within = spread_more R U T S p.within;
            other = λ e. p.other (spread_injective R U T S small (omega (arith, part_le p.within)) l e);
          })
          t;
    },
  )

  -- Sets P' that are P by their old numbers, where no P has a rule that U lacks.
  lists_renumbered : (P' P : ℕ → Type 0) → ((S : ℕ) → S < 2 ^ ones U → P' S ↔ P (spread R U S)) → ((T : ℕ) → T < 2 ^ R → P T → T ⊑ U)
      → (l m : List ℕ) → Lists l (Among (ones U) P') → Lists m (Among R P) → map (spread R U) l ≡ m
  lists_renumbered P' P same inside l m k n =
      one_list (map (spread R U) l) m (Among R P)
      (lists_map (spread R U) (Among (ones U) P') (Among R P)
      (λ S p. record { rules = spread_below R U S; itself = (same S p.rules).0 p.itself })
      (λ T q.
      let r = spread_onto R U T small (inside T q.rules q.itself) in
      (r.0, record { rules = r.1; itself = (same r.0 r.1).1 (rw r.2 q.itself) }, r.2))
      (λ S T p q. spread_before R U S T small p.rules q.rules) l k)
      n

meet_map : (R U S : ℕ) (l : List ℕ) → meet (spread R U S) (map (spread R U) l) ≡ spread R U (meet S l)
unfolding meet
meet_map R U S [] = refl
meet_map R U S (T ∷ l) =
    ap (λ (X : ℕ). meet X (map (spread R U) l)) (sym (spread_and R U S T)) ∙ meet_map R U (bit_and S T) l

common_map : (R U : ℕ) (l : List ℕ) → common (map (spread R U) l) ≡ spread R U (common l)
unfolding common
common_map R U [] = sym (spread_zero R U)
common_map R U (S ∷ l) = meet_map R U S l

together_map : (R U : ℕ) (l : List ℕ) → together (map (spread R U) l) ≡ spread R U (together l)
unfolding together
together_map R U [] = sym (spread_zero R U)
together_map R U (S ∷ l) = ap (bit_or (spread R U S)) (together_map R U l) ∙ sym (spread_or R U S (together l))

-- ---- a judgement whose cores are all parts of U

module _ (R U : ℕ) (h : ℕ → Bool) (small : U < 2 ^ R) (inside : (C : ℕ) → C < 2 ^ R → Core h C → C ⊑ U) where
  cores_renumbered : map (spread R U) (cores_of (ones U) (renumbered R U h)) ≡ cores_of R h
  unfolding Core
  cores_renumbered =
      lists_renumbered R U small (Core (renumbered R U h)) (Core h) (least_renumbered R U small (λ T. h T ≡ true)) inside
      (cores_of (ones U) (renumbered R U h)) (cores_of R h) (cores_of_lists (ones U) (renumbered R U h)) (cores_of_lists R h)

  must_renumbered : spread R U (must_of (ones U) (renumbered R U h)) ≡ must_of R h
  unfolding must_of
  must_renumbered = sym (common_map R U (cores_of (ones U) (renumbered R U h))) ∙ ap common cores_renumbered

  some_renumbered : spread R U (some_of (ones U) (renumbered R U h)) ≡ some_of R h
  unfolding some_of
  some_renumbered = sym (together_map R U (cores_of (ones U) (renumbered R U h))) ∙ ap together cores_renumbered

  may_renumbered : spread R U (may_of (ones U) (renumbered R U h)) ≡ may_of R h
  may_renumbered =
      let h' = renumbered R U h in
      ap (spread R U) (sym (some_less_must (ones U) h'))
      ∙ spread_minus R U (some_of (ones U) h') (must_of (ones U) h') (must_some (ones U) h')
      ∙ ap₂ ◌-◌ some_renumbered must_renumbered ∙ some_less_must R h

  -- Of the rules that U keeps, those that are in no core are in none by their new numbers.
  irrelevant_renumbered : spread R U (irrelevant_of (ones U) (renumbered R U h)) ≡ U - some_of R h
  irrelevant_renumbered =
      let h' = renumbered R U h in
      ap (spread R U) (sym (full_less_some (ones U) h')) ∙ spread_rest R U (some_of (ones U) h') small (some_below (ones U) h')
      ∙ ap (λ (S : ℕ). U - S) some_renumbered

  -- With a monotone judgement, the rules that U lacks make no difference.
  module _ (mono : Monotone R h) where
    rest_same : (Z : ℕ) → Z ⊑ U → h (U - Z) ≡ h (full R - Z)
    unfolding Core
    rest_same Z p =
        let below : Z < 2 ^ R = omega (arith, part_le p) in
        alike (h (U - Z)) (h (full R - Z))
        (mono.more (U - Z) (full R - Z) (omega (arith, pow_pos R)) (record {
          every = λ i e. let r = (has_less p i).0 e in (has_rest R Z i below).1 (has_below R U i small r.0, r.1);
        }))
        (λ t.
        let c = (duality R h mono).contains (full R - Z) t in
        let l : c.0 < 2 ^ R = omega (arith, part_le {S = c.0} c.1, pow_pos R) in
        mono.more c.0 (U - Z) (omega arith)
        (record { every = λ i e. (has_less p i).1 ((inside c.0 l c.2).every i e, ((has_rest R Z i below).0 (c.1.every i e)).1) })
        c.2.itself)

    cut_renumbered : (S : ℕ) → S < 2 ^ ones U → Cut (ones U) (renumbered R U h) S ↔ Cut R h (spread R U S)
    unfolding Cut
    cut_renumbered S l =
        Iff.trans
        (least_agree (λ T. h (spread R U (full (ones U) - T)) ≡ false) (λ T. h (full R - spread R U T) ≡ false) S
        (λ T p.
        let e = ap h (spread_rest R U T small (omega (arith, part_le p))) ∙ rest_same (spread R U T) (spread_part R U T) in
        (λ b. sym e ∙ b, λ b. e ∙ b)))
        (least_renumbered R U small (λ T. h (full R - T) ≡ false) S l)

    cut_inside : (T : ℕ) → T < 2 ^ R → Cut R h T → T ⊑ U
    cut_inside T l k =
        record {
          every = λ i e. let c = (in_core_iff_in_cut R h mono i).1 (T, l, k, e) in (inside c.0 c.1 c.2).every i c.3;
        }

    cuts_renumbered : map (spread R U) (cuts_of (ones U) (renumbered R U h)) ≡ cuts_of R h
    cuts_renumbered =
        lists_renumbered R U small (Cut (ones U) (renumbered R U h)) (Cut R h) cut_renumbered cut_inside
        (cuts_of (ones U) (renumbered R U h)) (cuts_of R h) (cuts_of_lists (ones U) (renumbered R U h)) (cuts_of_lists R h)

-- ---- the theorem

-- The rules that U keeps of R rules, numbered anew, say by their old numbers what all of them say.
pub record Reduced (R U : ℕ) (h : ℕ → Bool) : Type 0 where
  pub cores : map (spread R U) (cores_of (ones U) (renumbered R U h)) ≡ cores_of R h
  pub cuts : map (spread R U) (cuts_of (ones U) (renumbered R U h)) ≡ cuts_of R h
  pub must : spread R U (must_of (ones U) (renumbered R U h)) ≡ must_of R h
  pub may : spread R U (may_of (ones U) (renumbered R U h)) ≡ may_of R h

reduced : (R U : ℕ) (h : ℕ → Bool) → U < 2 ^ R → ((C : ℕ) → C < 2 ^ R → Core h C → C ⊑ U) → Monotone R h → Reduced R U h
reduced R U h small inside mono =
    record {
      cores = cores_renumbered R U h small inside;
      cuts = cuts_renumbered R U h small inside mono;
      must = must_renumbered R U h small inside;
      may = may_renumbered R U h small inside;
    }

-- The rules in some core contain every core, so the others may go; and then no rule is irrelevant.
pub relevant_reduced : (R : ℕ) (h : ℕ → Bool) → Monotone R h → Reduced R (some_of R h) h
relevant_reduced R h = reduced R (some_of R h) h (some_below R h) (core_some R h)

pub none_irrelevant : (R : ℕ) (h : ℕ → Bool) → irrelevant_of (ones (some_of R h)) (renumbered R (some_of R h) h) ≡ 0
none_irrelevant R h =
    let U = some_of R h in
    let h' = renumbered R U h in
    spread_injective R U (irrelevant_of (ones U) h') 0 (some_below R h) (irrelevant_below (ones U) h') (pow_pos (ones U))
    (irrelevant_renumbered R U h (some_below R h) (core_some R h) ∙ sub_self U ∙ sym (spread_zero R U))
