-- Cores and cuts of a monotone judgement are each other's minimal hitting sets, and MUST has exactly the rules that form a cut alone.
-- From two facts: every set that holds contains a core, and a removal breaks exactly when it takes a rule of every core.
-- The second half of the duality is the first for the dual judgement, by which a set holds if its removal breaks.
use Rattle.std.specs.Prelude.{ℕ, zero, suc, ◌-◌, ◌^◌, ◌<◌, ◌≡◌, refl, ◌↔◌, ◌⊎◌, Bool, true, false, not, ◌&&◌}
use Rattle.std.proofs.Math.Path.{sym}
use Rattle.std.proofs.Common.{ap, ◌∙◌, inl, inr, ⊎_elim, below_none, below_more}
use Rattle.std.proofs.Math.Logic.Iff
use Rattle.std.proofs.Math.Bool.{true≢false, and-eq-true_iff}
use native.Mathlib.Omega.{arith}
use Rattle.std.proofs.Math.Nat.{sub-zero}
use Rattle.std.proofs.Math.Pow.{pow_pos, pow-lt}
use Rattle.std.proofs.lemmas.Bool.{not-true, not-false}
use Rattle.sets.specs.Bit.{has, full}
use Rattle.sets.specs.Laws.Bit.{has_below, has_one}
use Rattle.sets.specs.Sets.{◌⊑◌, Shares, part}
use Rattle.sets.specs.Laws.Sets.{part_iff, part_refl, part_trans, part_le, part_antisym, part_zero, part_rest, apart_iff, shares_both, shares_iff, shares_one, proper_lt}
use Rattle.sets.specs.Cores.{Least, Core, Cut, Monotone, breaks}
use Rattle.sets.specs.Laws.Cores.{breaks_iff, breaks_core, least_agree, false_if}
use Rattle.sets.specs.Demand3.{Hits}
use Rattle.sets.specs.Lists.{must_of}
use Rattle.sets.proofs.Laws.Must.{Must, must_iff}

-- ---- every set that holds contains a core: the part of it with the least number that holds

-- No number below n passes q.
abbrev NoneTo : (ℕ → Bool) → ℕ → Type 0
NoneTo q n = (k : ℕ) → k < n → ¬ (q k ≡ true)

first : (q : ℕ → Bool) (n : ℕ) → ((m : ℕ) × (q m ≡ true) × NoneTo q m) ⊎ NoneTo q n
first q zero = inr (below_none (λ k. ¬ (q k ≡ true)))
first q (suc n) = ⊎_elim inl (λ none. pick none (q n) refl) (first q n)
  where
    pick : NoneTo q n → (b : Bool) → q n ≡ b → ((m : ℕ) × (q m ≡ true) × NoneTo q m) ⊎ NoneTo q (suc n)
    pick none true e = inl (n, e, none)
    pick none false e =
        inr (λ k l. below_more (λ k. ¬ (q k ≡ true)) n none (λ t. true≢false (sym t ∙ e)) k (omega arith))

contains_core : (h : ℕ → Bool) (S : ℕ) → h S ≡ true → (C : ℕ) × (C ⊑ S) × Core h C
unfolding Core
contains_core h S e =
    ⊎_elim
    (λ r.
    let both = (and-eq-true_iff (part r.0 S) (h r.0)).0 r.1 in
    let within = (part_iff r.0 S).0 both.0 in (
      r.0,
      within,
      record {
        itself = both.1;
        no_part = λ T p t. r.2 T (proper_lt p) (holding T (part_trans p.within within) t);
      },
    ))
    (λ none. absurd (none S (omega arith) (holding S (part_refl S) e)))
    (first (λ T. part T S && h T) (suc S))
  where
    holding : (T : ℕ) → T ⊑ S → h T ≡ true → (part T S && h T) ≡ true
    holding T p t = (and-eq-true_iff (part T S) (h T)).1 ((part_iff T S).1 p, t)

a_core : (h : ℕ → Bool) (R : ℕ) → h (full R) ≡ true → (S : ℕ) × (S < 2 ^ R) × Core h S
a_core h R e =
    let c = contains_core h (full R) e in
    (c.0, omega (arith, part_le c.1, pow_pos R), c.2)

-- ---- cuts hit the cores

module _ (R : ℕ) (h : ℕ → Bool) (mono : Monotone R h) where
  removal_hits : (S : ℕ) → S < 2 ^ R → (h (full R - S) ≡ false) ↔ Hits R (Core h) S
  unfolding Core
  removal_hits S l = (
    λ e. record {
      meets = λ C below c.
          (shares_iff S C).1
          (λ z.
          let within = (apart_iff R S C l below).0 (λ s. (shares_iff S C).0 s z) in
          true≢false (sym (mono.more C (full R - S) (omega (arith, pow_pos R)) within c.itself) ∙ e));
    },
    λ hits.
        false_if (h (full R - S))
        (λ e.
        let c = contains_core h (full R - S) e in
        let below : c.0 < 2 ^ R = omega (arith, part_le c.1, pow_pos R) in
        (apart_iff R S c.0 l below).1 c.1 (hits.meets c.0 below c.2)),
  )

  cuts_hit : (S : ℕ) → S < 2 ^ R → Cut R h S ↔ Least (Hits R (Core h)) S
  unfolding Cut
  cuts_hit S l =
      least_agree (λ T. h (full R - T) ≡ false) (Hits R (Core h)) S (λ T p. removal_hits T (omega (arith, part_le p)))

-- ---- the dual judgement

pub breaks_monotone : (R : ℕ) (h : ℕ → Bool) → Monotone R h → Monotone R (breaks R h)
breaks_monotone R h mono =
    record {
      more = λ S T l p e.
          (breaks_iff R h T).1
          (false_if (h (full R - T))
          (λ t.
          true≢false
          (sym (mono.more (full R - T) (full R - S) (omega (arith, pow_pos R)) (part_rest R S T l p) t)
          ∙ (breaks_iff R h S).0 e)));
    }

pub breaks_cut : (R : ℕ) (h : ℕ → Bool) (S : ℕ) → S < 2 ^ R → Cut R (breaks R h) S ↔ Core h S
unfolding Core Cut breaks
breaks_cut R h S l =
    least_agree (λ T. breaks R h (full R - T) ≡ false) (λ T. h T ≡ true) S
    (λ T p.
    let twice : full R - (full R - T) ≡ T = omega (arith, part_le p) in
    rw twice (not-false (h T), ap not))

hits_agree : (R : ℕ) (P Q : ℕ → Type 0) → ((T : ℕ) → P T ↔ Q T) → (S : ℕ) → Hits R P S ↔ Hits R Q S
hits_agree R P Q e S = (
  λ hits. record { meets = λ T l q. hits.meets T l ((e T).1 q) },
  λ hits. record { meets = λ T l p. hits.meets T l ((e T).0 p) },
)

-- ---- cores hit the cuts, and MUST

module _ (R : ℕ) (h : ℕ → Bool) (mono : Monotone R h) where
  cores_hit : (S : ℕ) → S < 2 ^ R → Core h S ↔ Least (Hits R (Cut R h)) S
  cores_hit S l =
      Iff.trans (Iff.symm (breaks_cut R h S l))
      (Iff.trans (cuts_hit R (breaks R h) (breaks_monotone R h mono) S l)
      (least_agree (Hits R (Core (breaks R h))) (Hits R (Cut R h)) S
      (λ T p. hits_agree R (Core (breaks R h)) (Cut R h) (breaks_core R h) T)))

  must_alone : (i : ℕ) → Must R h i ↔ ((i < R) × Cut R h (2 ^ i))
  unfolding Cut
  must_alone i = (
    λ m.
        let c = m.a_core in
        let below = has_below R c.0 i c.1 (m.in_every c.0 c.1 c.2) in (
          below,
          (cuts_hit R h mono (2 ^ i) (pow-lt below)).1 (record {
            itself = record { meets = λ T l k. (shares_one i T).1 (m.in_every T l k) };
            no_part = λ T p hits.
                let s = hits.meets c.0 c.1 c.2 in
                let same = (has_one i s.rule).0 (p.within.every s.rule s.in_first) in
                p.other
                (part_antisym p.within (record { every = λ j e. rw ((has_one i j).0 e ∙ sym same) s.in_first }));
          }),
        ),
    λ r.
        let hits = ((cuts_hit R h mono (2 ^ i) (pow-lt r.0)).0 r.1).itself in
        record {
          a_core =
              a_core h R
              (not-false (h (full R))
              (false_if (not (h (full R)))
              (λ t.
              r.1.no_part 0 (record { within = part_zero (2 ^ i); other = omega (arith, pow_pos i) })
              (rw sub-zero (not-true (h (full R)) t)))));
          in_every = λ C l c. (shares_one i C).0 (hits.meets C l c);
        },
  )

-- ---- a set that holds has a core inside, and a broken one a cut apart

module _ (R : ℕ) (h : ℕ → Bool) (mono : Monotone R h) (S : ℕ) (l : S < 2 ^ R) where
  core_inside : (h S ≡ true) ↔ ((C : ℕ) × (C < 2 ^ R) × Core h C × (C ⊑ S))
  unfolding Core
  core_inside = (
    λ e. let c = contains_core h S e in (c.0, omega (arith, part_le c.1), c.2, c.1),
    λ c. mono.more c.0 S l c.3 c.2.itself,
  )

  cut_apart : (h S ≡ false) ↔ ((C : ℕ) × (C < 2 ^ R) × Cut R h C × (¬ Shares C S))
  unfolding Cut
  cut_apart = (
    λ e.
        let twice : full R - (full R - S) ≡ S = omega arith in
        let c = contains_core (breaks R h) (full R - S) ((breaks_iff R h (full R - S)).1 (rw twice e)) in
        let below : c.0 < 2 ^ R = omega (arith, part_le {S = c.0} c.1, pow_pos R) in
        (c.0, below, (breaks_core R h c.0).0 c.2, λ s. (apart_iff R S c.0 l below).1 c.1 (shares_both {S = c.0} {T = S} s)),
    λ c.
        false_if (h S)
        (λ t.
        let within = (apart_iff R c.0 S c.1 l).0 c.3 in
        true≢false (sym (mono.more S (full R - c.0) (omega (arith, pow_pos R)) within t) ∙ c.2.itself)),
  )

-- ---- the theorem

-- How the cores, the cuts and MUST of R rules judged by h meet.
pub record Duality (R : ℕ) (h : ℕ → Bool) : Type 0 where
  -- Every set that holds contains a core.
  pub contains : (S : ℕ) → h S ≡ true → (C : ℕ) × (C ⊑ S) × Core h C
  -- A set holds exactly when some core is a part of it, and is broken exactly when some cut shares no rule with it.
  pub inside : (S : ℕ) → S < 2 ^ R → (h S ≡ true) ↔ ((C : ℕ) × (C < 2 ^ R) × Core h C × (C ⊑ S))
  pub apart : (S : ℕ) → S < 2 ^ R → (h S ≡ false) ↔ ((C : ℕ) × (C < 2 ^ R) × Cut R h C × (¬ Shares C S))
  -- The removal of a set leaves a broken set exactly when the set shares a rule with every core.
  pub removal : (S : ℕ) → S < 2 ^ R → (h (full R - S) ≡ false) ↔ Hits R (Core h) S
  -- A set is a cut exactly when it shares a rule with every core and no proper part of it does.
  pub cuts : (S : ℕ) → S < 2 ^ R → Cut R h S ↔ Least (Hits R (Core h)) S
  -- A set is a core exactly when it shares a rule with every cut and no proper part of it does.
  pub cores : (S : ℕ) → S < 2 ^ R → Core h S ↔ Least (Hits R (Cut R h)) S
  -- The MUST rules are exactly those that form a cut alone.
  pub alone : (i : ℕ) → (has (must_of R h) i ≡ true) ↔ ((i < R) × Cut R h (2 ^ i))
  -- Where the property holds, the MUST rules are exactly those in every core.
  pub every_core : h (full R) ≡ true → (i : ℕ)
      → (has (must_of R h) i ≡ true) ↔ ((C : ℕ) → C < 2 ^ R → Core h C → has C i ≡ true)

pub duality : (R : ℕ) (h : ℕ → Bool) → Monotone R h → Duality R h
duality R h mono =
    record {
      contains = contains_core h;
      inside = core_inside R h mono;
      apart = cut_apart R h mono;
      removal = removal_hits R h mono;
      cuts = cuts_hit R h mono;
      cores = cores_hit R h mono;
      alone = λ i. Iff.trans (must_iff R h i) (must_alone R h mono i);
      every_core = λ e i.
          Iff.trans (must_iff R h i) (λ m. m.in_every, λ f. record { a_core = a_core h R e; in_every = f });
    }
