-- Each of R rules is of exactly one kind: in every core, in some but not in every, or in none; and how code finds the sets of the kinds.
-- For a monotone judgement the rules in no core are those in no cut: a core is broken without one of its rules, so a cut meets it in that
-- rule alone, and the other way round.
use Rattle.std.specs.Prelude.{ℕ, ◌-◌, ◌^◌, ◌<◌, ◌≡◌, refl, ◌↔◌, ◌⊎◌, Bool, true, false, not, ◌&&◌, []}
use Rattle.std.proofs.Common.{sym, ◌∙◌, inl, inr, true≢false, arith}
use Rattle.std.proofs.Math.Path.{ap}
use Rattle.std.proofs.Math.Bool.{and-eq-true_iff}
use Rattle.std.proofs.Math.Nat.{sub-zero}
use Rattle.std.proofs.Math.Decide.{ℕ_discrete}
use Rattle.std.proofs.Math.Pow.{pow_pos}
use Rattle.std.proofs.lemmas.Bool.{not-true}
use Rattle.sets.specs.Bit.{has, full}
use Rattle.sets.specs.Laws.Bit.{has_below, has_rest}
use Rattle.sets.specs.Gathered.{set_of}
use Rattle.sets.specs.Laws.Gathered.{set_of_lt, has_set_of, not_set_of}
use Rattle.sets.specs.Sets.{◌⊑◌, without}
use Rattle.sets.specs.Laws.Sets.{part_le, part_antisym, has_less, has_without, without_le, without_proper}
use Rattle.sets.specs.Cores.{Core, Cut, Monotone, breaks}
use Rattle.sets.specs.Laws.Cores.{false_if, breaks_iff, breaks_core}
use Rattle.sets.specs.Lists.{cores_of, must_of}
use Rattle.sets.specs.Laws.Listed.{cores_of_lists}
use Rattle.sets.proofs.Laws.Must.{must_below}
use Rattle.sets.proofs.Laws.ByNumber.{has_together, common_together, together_below}
use Rattle.sets.proofs.Laws.Duality.{duality, breaks_monotone, breaks_cut}
use Rattle.sets.specs.Kinds.{InSome, together, some_of, may_of, irrelevant_of, Sorted}

-- ---- the rules in some core

pub some_iff : (R : ℕ) (h : ℕ → Bool) (i : ℕ) → (has (some_of R h) i ≡ true) ↔ InSome R (Core h) i
unfolding some_of
some_iff R h i = (
  λ e.
      let r = (has_together (cores_of R h) i).0 e in
      let c = (cores_of_lists R h).only r.0 r.1 in
      (r.0, c.rules, c.itself, r.2),
  λ p. (has_together (cores_of R h) i).1 (p.0, (cores_of_lists R h).each p.0 (record { rules = p.1; itself = p.2 }), p.3),
)

pub some_below : (R : ℕ) (h : ℕ → Bool) → some_of R h < 2 ^ R
unfolding some_of
some_below R h = together_below R (cores_of R h) (λ S m. ((cores_of_lists R h).only S m).rules)

-- Every core is a part of the rules in some core.
pub core_some : (R : ℕ) (h : ℕ → Bool) (C : ℕ) → C < 2 ^ R → Core h C → C ⊑ some_of R h
core_some R h C l c = record { every = λ i e. (some_iff R h i).1 (C, l, c, e) }

-- So is MUST; where there is no core, both are set 0.
pub must_some : (R : ℕ) (h : ℕ → Bool) → must_of R h ⊑ some_of R h
unfolding must_of some_of
must_some R h = common_together (cores_of R h)

-- ---- the sets of the kinds, by the tests and by number

mem_set_of : (n : ℕ) (p : ℕ → Bool) (i : ℕ) → (has (set_of n p) i ≡ true) ↔ ((i < n) × (p i ≡ true))
mem_set_of n p i = (
  λ e. let l = has_below n (set_of n p) i (set_of_lt n p) e in (l, sym (has_set_of n p i l) ∙ e),
  λ r. has_set_of n p i r.0 ∙ r.1,
)

not_iff : (b : Bool) → (not b ≡ true) ↔ (¬ (b ≡ true))
not_iff b = (λ e t. true≢false (sym t ∙ not-true b e), λ n. ap not (false_if b n))

pub has_may : (R : ℕ) (h : ℕ → Bool) (i : ℕ)
    → (has (may_of R h) i ≡ true) ↔ ((has (some_of R h) i ≡ true) × (¬ (has (must_of R h) i ≡ true)))
unfolding may_of
has_may R h i = (
  λ e.
      let r = (and-eq-true_iff (has (some_of R h) i) (not (has (must_of R h) i))).0
      ((mem_set_of R (λ j. has (some_of R h) j && not (has (must_of R h) j)) i).0 e).1
      in
      (r.0, (not_iff (has (must_of R h) i)).0 r.1),
  λ p.
      (mem_set_of R (λ j. has (some_of R h) j && not (has (must_of R h) j)) i).1 (
        has_below R (some_of R h) i (some_below R h) p.0,
        (and-eq-true_iff (has (some_of R h) i) (not (has (must_of R h) i))).1 (p.0, (not_iff (has (must_of R h) i)).1 p.1),
      ),
)

has_irrelevant : (R : ℕ) (h : ℕ → Bool) (i : ℕ)
    → (has (irrelevant_of R h) i ≡ true) ↔ ((i < R) × (¬ (has (some_of R h) i ≡ true)))
unfolding irrelevant_of
has_irrelevant R h i = (
  λ e.
      let r = (mem_set_of R (λ j. not (has (some_of R h) j)) i).0 e in
      (r.0, (not_iff (has (some_of R h) i)).0 r.1),
  λ p. (mem_set_of R (λ j. not (has (some_of R h) j)) i).1 (p.0, (not_iff (has (some_of R h) i)).1 p.1),
)

-- The irrelevant rules are exactly those that are in no core.
pub irrelevant_iff : (R : ℕ) (h : ℕ → Bool) (i : ℕ)
    → (has (irrelevant_of R h) i ≡ true) ↔ ((i < R) × ((C : ℕ) → C < 2 ^ R → Core h C → ¬ (has C i ≡ true)))
irrelevant_iff R h i = (
  λ e. let p = (has_irrelevant R h i).0 e in (p.0, λ C l c m. p.1 ((some_iff R h i).1 (C, l, c, m))),
  λ p. (has_irrelevant R h i).1 (p.0, λ e. let c = (some_iff R h i).0 e in p.1 c.0 c.1 c.2 c.3),
)

pub may_below : (R : ℕ) (h : ℕ → Bool) → may_of R h < 2 ^ R
unfolding may_of
may_below R h = set_of_lt R (λ i. has (some_of R h) i && not (has (must_of R h) i))

pub irrelevant_below : (R : ℕ) (h : ℕ → Bool) → irrelevant_of R h < 2 ^ R
unfolding irrelevant_of
irrelevant_below R h = set_of_lt R (λ i. not (has (some_of R h) i))

-- As code finds them: what is left of the rules in some core without MUST, and what is left of all rules without those in some core.
pub some_less_must : (R : ℕ) (h : ℕ → Bool) → some_of R h - must_of R h ≡ may_of R h
some_less_must R h =
    part_antisym (record { every = λ i e. (has_may R h i).1 ((has_less (must_some R h) i).0 e) })
    (record { every = λ i e. (has_less (must_some R h) i).1 ((has_may R h i).0 e) })

pub full_less_some : (R : ℕ) (h : ℕ → Bool) → full R - some_of R h ≡ irrelevant_of R h
unfolding irrelevant_of
full_less_some R h = not_set_of R (some_of R h) (some_below R h)

-- ---- each rule is of one kind

pub kinds_sorted : (R : ℕ) (h : ℕ → Bool) → Sorted R (must_of R h) (may_of R h) (irrelevant_of R h)
kinds_sorted R h =
    record {
      each = λ i l. kind i l (has (some_of R h) i) (has (must_of R h) i) refl refl;
      must_or_may = λ i m e. ((has_may R h i).0 e).1 m;
      must_or_irrelevant = λ i m e. ((has_irrelevant R h i).0 e).1 ((must_some R h).every i m);
      may_or_irrelevant = λ i m e. ((has_irrelevant R h i).0 e).1 ((has_may R h i).0 m).0;
      must_rules = must_below R h;
      may_rules = may_below R h;
      irrelevant_rules = irrelevant_below R h;
    }
  where
    kind : (i : ℕ) → i < R → (some must : Bool) → has (some_of R h) i ≡ some → has (must_of R h) i ≡ must
        → (has (must_of R h) i ≡ true) ⊎ ((has (may_of R h) i ≡ true) ⊎ (has (irrelevant_of R h) i ≡ true))
    kind i l some true s m = inl m
    kind i l true false s m = inr (inl ((has_may R h i).1 (s, λ t. true≢false (sym t ∙ m))))
    kind i l false false s m = inr (inr ((has_irrelevant R h i).1 (l, λ t. true≢false (sym t ∙ s))))

-- With no core, every rule is irrelevant and none is in MAY.
module _ (R : ℕ) (h : ℕ → Bool) (none : cores_of R h ≡ []) where
  no_core_some : some_of R h ≡ 0
  unfolding some_of
  no_core_some = ap together none

  pub no_core_irrelevant : irrelevant_of R h ≡ full R
  no_core_irrelevant = sym (full_less_some R h) ∙ rw (no_core_some, sub-zero)

  pub no_core_may : may_of R h ≡ 0
  no_core_may = omega (arith, some_less_must R h, no_core_some)

-- ---- the same by the cuts

module _ (R : ℕ) (h : ℕ → Bool) (mono : Monotone R h) (i : ℕ) where
  -- A cut that takes at most rule i of a core has rule i.
  takes_it : (C K : ℕ) → C < 2 ^ R → K < 2 ^ R → Core h C → Cut R h K → K ⊑ full R - without C i → has K i ≡ true
  takes_it C K l b c k p =
      let s = (((duality R h mono).cuts K b).0 k).itself.meets C l c in
      alone s.rule s.in_first s.in_second (ℕ_discrete s.rule i)
    where
      alone : (j : ℕ) → has K j ≡ true → has C j ≡ true → Dec (j ≡ i) → has K i ≡ true
      alone j inK in_c (yes e) = rw e at inK
      alone j inK in_c (no n) =
          absurd (((has_rest R (without C i) j (omega (arith, without_le C i))).0 (p.every j inK)).1 ((has_without C i j).1 (in_c, n)))

  -- A core is broken without one of its rules, so there is a cut that takes only this rule of it.
  core_in_cut : InSome R (Core h) i → InSome R (Cut R h) i
  unfolding Core
  core_in_cut c =
      let C = c.0 in
      let rest = full R - without C i in
      let twice : full R - rest ≡ without C i = omega (arith, pow_pos R, without_le C i, c.1) in
      let broken = false_if (h (without C i)) (c.2.no_part (without C i) (without_proper C i c.3)) in
      let k = (duality R (breaks R h) (breaks_monotone R h mono)).contains rest ((breaks_iff R h rest).1 (ap h twice ∙ broken)) in
      let below : k.0 < 2 ^ R = omega (arith, part_le {S = k.0} k.1, pow_pos R) in
      let cut = (breaks_core R h k.0).0 k.2 in
      (k.0, below, cut, takes_it C k.0 c.1 below c.2 cut k.1)

-- A rule is in some core exactly when it is in some cut.
pub in_core_iff_in_cut : (R : ℕ) (h : ℕ → Bool) → Monotone R h → (i : ℕ) → InSome R (Core h) i ↔ InSome R (Cut R h) i
in_core_iff_in_cut R h mono i = (
  core_in_cut R h mono i,
  λ k.
      let c = core_in_cut R (breaks R h) (breaks_monotone R h mono) i (k.0, k.1, (breaks_core R h k.0).1 k.2, k.3) in
      (c.0, c.1, (breaks_cut R h c.0 c.1).0 c.2, c.3),
)

-- So it is irrelevant exactly when it is in no cut.
pub irrelevant_by_cuts : (R : ℕ) (h : ℕ → Bool) → Monotone R h → (i : ℕ)
    → (has (irrelevant_of R h) i ≡ true) ↔ ((i < R) × ((S : ℕ) → S < 2 ^ R → Cut R h S → ¬ (has S i ≡ true)))
irrelevant_by_cuts R h mono i = (
  λ e.
      let p = (irrelevant_iff R h i).0 e in
      (p.0, λ S l s m. let c = (in_core_iff_in_cut R h mono i).1 (S, l, s, m) in p.1 c.0 c.1 c.2 c.3),
  λ p.
      (irrelevant_iff R h i).1
      (p.0, λ C l c m. let s = (in_core_iff_in_cut R h mono i).0 (C, l, c, m) in p.1 s.0 s.1 s.2 s.3),
)
