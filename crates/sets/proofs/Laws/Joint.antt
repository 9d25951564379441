-- A set is a core of a conjunction of monotone judgements exactly when it is a union of one core from each and no other such union is a proper
-- part of it. By induction over the list: such a union holds by all, and a set that holds by all has such a union as a part, since a set that
-- holds has a core as a part.
use Rattle.std.specs.Prelude.{ℕ, ◌^◌, ◌<◌, ◌≡◌, ◌↔◌, Bool, true}
use Rattle.std.proofs.Math.Path.{refl}
use Rattle.std.proofs.Common.{ap, ◌∙◌, ⊎_elim, arith, pow_pos}
use Rattle.std.proofs.Math.Logic.Iff
use Rattle.std.proofs.Math.Bool.{and-eq-true_iff}
use mathlib.Core.List.Memᴰ
use mathlib.Core.List.{List, [], ◌∷◌}
use Rattle.std.specs.Int.Bits.{bit_or}
use Rattle.std.proofs.lemmas.Nat.{or_lt}
use Rattle.sets.specs.Sets.{◌⊑◌}
use Rattle.sets.specs.Laws.Sets.{part_refl, part_trans, part_le, part_zero, proper_lt, or_part}
use Rattle.sets.specs.Cores.{Least, Core, Monotone}
use Rattle.sets.specs.Laws.Cores.{least_whole}
use Rattle.sets.specs.Tabulated.{tabulate}
use Rattle.sets.specs.Laws.Tabulated.{each_tabulate}
use Rattle.sets.specs.Renumbered.{all_pass}
use Rattle.sets.specs.Demand3.{Among}
use Rattle.sets.specs.Laws.Listed.{cores_of_lists, lists_agree}
use Rattle.sets.proofs.Laws.Duality.{duality}
use Rattle.sets.specs.Joint.{Each, joint, UnionOfCores, no_judgement, one_more, JointCores}

-- ---- the judgement by all

rest : {A : Type 0} {P : A → Type 0} {x : A} {l : List A} → Each P (x ∷ l) → Each P l
rest all y m = all y (Memᴰ.tail m)

all_pass_iff : {A : Type 0} (f : A → Bool) (l : List A) → (all_pass f l ≡ true) ↔ Each (λ x. f x ≡ true) l
unfolding all_pass
all_pass_iff f [] = (λ e x m. absurd (Memᴰ.not-nil m), λ all. refl)
all_pass_iff f (x ∷ l) = (
  λ e y m.
      let both = (and-eq-true_iff (f x) (all_pass f l)).0 e in
      ⊎_elim (λ same. ap f same ∙ both.0) ((all_pass_iff f l).0 both.1 y) (Memᴰ.cases_cons m),
  λ all. (and-eq-true_iff (f x) (all_pass f l)).1 (all x (Memᴰ.head refl), (all_pass_iff f l).1 (rest all)),
)

-- A set holds by all exactly when it holds by each, of any list and of one that is given entry by entry.
joint_iff : (hs : List (ℕ → Bool)) (S : ℕ) → (joint hs S ≡ true) ↔ Each (λ h. h S ≡ true) hs
unfolding joint
joint_iff hs S = all_pass_iff (λ h. h S) hs

pub joint_tabulate : (n : ℕ) (h : ℕ → ℕ → Bool) (S : ℕ) → (joint (tabulate n h) S ≡ true) ↔ ((j : ℕ) → j < n → h j S ≡ true)
joint_tabulate n h S = Iff.trans (joint_iff (tabulate n h) S) (each_tabulate (λ g. g S ≡ true) n h)

-- ---- the unions of one core from each

module _ {R : ℕ} where
  union_below : {hs : List (ℕ → Bool)} {U : ℕ} → UnionOfCores R hs U → U < 2 ^ R
  union_below no_judgement = pow_pos R
  union_below (one_more {C = C} {U = U} c u) = or_lt R C U c.rules (union_below u)

  -- A set with such a union as a part holds by all.
  union_holds : {hs : List (ℕ → Bool)} {U : ℕ} → Each (Monotone R) hs → UnionOfCores R hs U → (T : ℕ) → T < 2 ^ R → U ⊑ T → joint hs T ≡ true
  unfolding joint Core
  union_holds mono no_judgement T l p = refl
  union_holds mono (one_more {h} {hs} {C} {U} c u) T l p =
      let both = (or_part C U T).0 p in
      (and-eq-true_iff (h T) (joint hs T)).1
      ((mono h (Memᴰ.head refl)).more C T l both.0 c.itself.itself, union_holds (rest mono) u T l both.1)

  -- A set that holds by all has such a union as a part.
  union_inside : (hs : List (ℕ → Bool)) → Each (Monotone R) hs → (T : ℕ) → T < 2 ^ R → joint hs T ≡ true
      → (U : ℕ) × UnionOfCores R hs U × (U ⊑ T)
  unfolding joint
  union_inside [] mono T l e = (0, no_judgement, part_zero T)
  union_inside (h ∷ hs) mono T l e =
      let both = (and-eq-true_iff (h T) (joint hs T)).0 e in
      let c = ((duality R h (mono h (Memᴰ.head refl))).inside T l).0 both.0 in
      let u = union_inside hs (rest mono) T l both.1 in
      (bit_or c.0 u.0, one_more (record { rules = c.1; itself = c.2 }) u.1, (or_part c.0 u.0 T).1 (c.3, u.2))

-- ---- the theorem

pub joint_cores : (R : ℕ) (hs : List (ℕ → Bool)) → Each (Monotone R) hs → JointCores R hs
unfolding Core
joint_cores R hs mono = record { cores = cores; core_list = lists_agree cores (cores_of_lists R (joint hs)) }
  where
    holds : {U : ℕ} → UnionOfCores R hs U → joint hs U ≡ true
    holds {U} u = union_holds mono u U (union_below u) (part_refl U)

    least : {S : ℕ} → Among R (Core (joint hs)) S → Least (UnionOfCores R hs) S
    least {S} c =
        let u = union_inside hs mono S c.rules c.itself.itself in
        let same : u.0 ≡ S = least_whole c.itself u.2 (holds u.1) in
        record { itself = rw same at u.1; no_part = λ T p t. c.itself.no_part T p (holds t) }

    core : {S : ℕ} → Least (UnionOfCores R hs) S → Among R (Core (joint hs)) S
    core s =
        record {
          rules = union_below s.itself;
          itself = record {
            itself = holds s.itself;
            no_part = λ T p e.
                let u = union_inside hs mono T (omega (arith, union_below s.itself, proper_lt p)) e in
                s.no_part u.0 (record { within = part_trans u.2 p.within; other = omega (arith, part_le u.2, proper_lt p) }) u.1;
          };
        }

    cores : (S : ℕ) → Among R (Core (joint hs)) S ↔ Least (UnionOfCores R hs) S
    cores S = (least, core)
