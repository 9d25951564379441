-- The test for a core, and that for a cut, is true exactly of what it tests; and which sets are least.
-- From the test for a part, since a proper part has a smaller number.
use Rattle.std.specs.Prelude.{ℕ, zero, suc, ◌-◌, ◌<◌, ◌≡◌, refl, ◌↔◌, Bool, true, false, not, ◌&&◌}
use Rattle.std.proofs.Common.{sym, ap, ◌∙◌, ⊎_elim, true≢false, arith, eq-or-lt_of_le, below_more}
use Rattle.std.proofs.Math.Logic.Iff
use Rattle.std.proofs.Math.Bool.{and-eq-true_iff}
use Rattle.std.proofs.lemmas.Bool.{not-true}
use Rattle.sets.specs.Bit.{full}
use Rattle.sets.specs.Sets.{◌⊑◌, part}
use Rattle.sets.specs.Laws.Sets.{part_refl, part_zero, part_le, part_iff, proper_lt}
use Rattle.sets.specs.Cores.{Core, Cut, Least, breaks, is_core, is_cut, is_least, none_below}

-- ---- the laws

-- A test that is not true is false.
pub false_if : (b : Bool) → ¬ (b ≡ true) → b ≡ false
false_if true n = absurd (n refl)
false_if false n = refl

pub none_below_iff : (q : ℕ → Bool) (n : ℕ) → (none_below q n ≡ true) ↔ ((T : ℕ) → T < n → ¬ (q T ≡ true))
unfolding none_below
none_below_iff q zero = (λ e T l. absurd (omega arith), λ f. refl)
none_below_iff q (suc n) = (
  λ e T l.
      let both = (and-eq-true_iff (not (q n)) (none_below q n)).0 e in
      below_more (λ (T : ℕ). ¬ (q T ≡ true)) n ((none_below_iff q n).0 both.1)
      (λ m. true≢false (sym m ∙ not-true (q n) both.0)) T (omega arith),
  λ f.
      (and-eq-true_iff (not (q n)) (none_below q n)).1
      (ap not (false_if (q n) (f n (omega arith))), (none_below_iff q n).1 (λ T l. f T (omega arith))),
)

-- Predicates that agree on the parts of S agree on S being the least.
pub least_agree : (P Q : ℕ → Type 0) (S : ℕ) → ((T : ℕ) → T ⊑ S → P T ↔ Q T) → Least P S ↔ Least Q S
least_agree P Q S e = (move P Q (λ T p. (e T p).0) (λ T p. (e T p).1), move Q P (λ T p. (e T p).1) (λ T p. (e T p).0))
  where
    move : (P Q : ℕ → Type 0) → ((T : ℕ) → T ⊑ S → P T → Q T) → ((T : ℕ) → T ⊑ S → Q T → P T) → Least P S → Least Q S
    move P Q to from l =
        record {
          itself = to S (part_refl S) l.itself;
          no_part = λ T p m. l.no_part T p (from T p.within m);
        }

-- A part of a least set that is P as well is the whole of it.
pub least_whole : {P : ℕ → Type 0} {S T : ℕ} → Least P S → T ⊑ S → P T → T ≡ S
least_whole {T = T} l p m = ⊎_elim (λ e. e) (λ b. absurd (l.no_part T (record { within = p; other = omega arith }) m)) (eq-or-lt_of_le (part_le p))

-- Where set 0 is P, it is the one least set.
pub least_zero : (P : ℕ → Type 0) → P 0 → Least P 0
least_zero P p = record { itself = p; no_part = λ T q m. omega (arith, proper_lt q) }

pub zero_least : (P : ℕ → Type 0) (S : ℕ) → P 0 → Least P S → S ≡ 0
zero_least P S p l = sym (least_whole l (part_zero S) p)

pub is_least_iff : (q : ℕ → Bool) (S : ℕ) → (is_least q S ≡ true) ↔ Least (λ T. q T ≡ true) S
unfolding is_least
is_least_iff q S = (
  λ e.
      let both = (and-eq-true_iff (q S) (none_below (λ T. part T S && q T) S)).0 e in
      record {
        itself = both.0;
        no_part = λ T p m.
            (none_below_iff (λ T. part T S && q T) S).0 both.1 T (proper_lt p)
            ((and-eq-true_iff (part T S) (q T)).1 ((part_iff T S).1 p.within, m));
      },
  λ l.
      (and-eq-true_iff (q S) (none_below (λ T. part T S && q T) S)).1 (
        l.itself,
        (none_below_iff (λ T. part T S && q T) S).1
            (λ T below e.
            let both = (and-eq-true_iff (part T S) (q T)).0 e in
            l.no_part T (record { within = (part_iff T S).0 both.0; other = omega arith }) both.1),
      ),
)

pub breaks_iff : (R : ℕ) (h : ℕ → Bool) (S : ℕ) → (breaks R h S ≡ true) ↔ (h (full R - S) ≡ false)
unfolding breaks
breaks_iff R h S = (not-true (h (full R - S)), ap not)

-- The cuts are the cores of the dual judgement, by which a set holds if its removal breaks.
pub breaks_core : (R : ℕ) (h : ℕ → Bool) (S : ℕ) → Core (breaks R h) S ↔ Cut R h S
unfolding Core Cut
breaks_core R h S =
    least_agree (λ T. breaks R h T ≡ true) (λ T. h (full R - T) ≡ false) S (λ T p. breaks_iff R h T)

-- The test for a core is true exactly of a core, and the test for a cut exactly of a cut.
pub is_core_iff : (h : ℕ → Bool) (S : ℕ) → (is_core h S ≡ true) ↔ Core h S
unfolding is_core Core
is_core_iff h S = is_least_iff h S

pub is_cut_iff : (R : ℕ) (h : ℕ → Bool) (S : ℕ) → (is_cut R h S ≡ true) ↔ Cut R h S
unfolding is_cut is_core
is_cut_iff R h S = Iff.trans (is_core_iff (breaks R h) S) (breaks_core R h S)
