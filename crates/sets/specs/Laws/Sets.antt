-- A part and a shared rule are what code computes of them, and what the order of the lists needs.
-- From the rules that a number has (`Laws.Bit`).
use Rattle.std.specs.Prelude.{ℕ, ◌+◌, ◌-◌, ◌/◌, ◌%◌, ◌^◌, ◌≤◌, ◌<◌, ◌≡◌, refl, ◌↔◌, ◌≢◌, ◌⊎◌, Bool, true, false, ◌&&◌, eqb}
use Rattle.std.proofs.Common.{sym, ap, subst, ◌∙◌, inl, inr, ⊎_elim, true≢false, arith, mod-lt, pow_pos, lt_of_le_ones, eqb-true, eq-eqb}
use Rattle.std.proofs.Math.Bool.{and-eq-true_iff}
use Rattle.std.proofs.Math.Decide.{dec_lt}
use Rattle.std.specs.Int.Bits.{bit_and, bit_or}
use Rattle.std.proofs.lemmas.Nat.{and_le_r, and_comm}
use Rattle.sets.specs.Laws.Choice.{alike}
use Rattle.sets.specs.Bit.{has, full}
use Rattle.sets.specs.Laws.Bit.{has_low, has_high, has_and, has_or, has_minus, has_le, has_some, has_below, has_zero, has_full, has_rest, has_one}
use Rattle.sets.specs.Sets.{Before, ProperPart, Shares, ◌⊑◌, as_many, fewer, part, apart, with, without}

-- ---- parts

pub part_refl : (S : ℕ) → S ⊑ S
part_refl S = record { every = λ i e. e }

pub part_trans : {S T U : ℕ} → S ⊑ T → T ⊑ U → S ⊑ U
part_trans p q = record { every = λ i e. q.every i (p.every i e) }

pub part_le : {S T : ℕ} → S ⊑ T → S ≤ T
part_le {S} {T} p = has_le S T p.every

pub part_antisym : {S T : ℕ} → S ⊑ T → T ⊑ S → S ≡ T
part_antisym p q = omega (arith, part_le p, part_le q)

-- The rules of a set that are not in another, where both are of R rules.
pub and_rest : (R S T : ℕ) → S < 2 ^ R → T < 2 ^ R → bit_and S (full R - T) ≡ S - bit_and S T
and_rest R S T hS hT =
    part_antisym
    (record { every = λ i e. let both = (has_and S (full R - T) i).0 e in (has_minus S T i).1 (both.0, ((has_rest R T i hT).0 both.1).1) })
    (record { every = λ i e. let both = (has_minus S T i).0 e in (has_and S (full R - T) i).1 (both.0, (has_rest R T i hT).1 (has_below R S i hS both.0, both.1)) })

-- A proper part has a smaller number.
pub proper_lt : {S T : ℕ} → ProperPart S T → S < T
proper_lt p = omega (arith, part_le p.within, p.other)

-- Set 0 is a part of every set, and every set of R rules is a part of the full set.
pub part_zero : (S : ℕ) → 0 ⊑ S
part_zero S = record { every = λ i e. absurd (has_zero i e) }

pub part_full : (R S : ℕ) → S < 2 ^ R → S ⊑ full R
part_full R S h = record { every = λ i e. (has_full R i).1 (has_below R S i h e) }

-- A union is a part of U exactly when both sets are.
pub or_part : (S T U : ℕ) → (bit_or S T ⊑ U) ↔ ((S ⊑ U) × (T ⊑ U))
or_part S T U = (
  λ p. (record { every = λ i e. p.every i ((has_or S T i).1 (inl e)) }, record { every = λ i e. p.every i ((has_or S T i).1 (inr e)) }),
  λ p. record { every = λ i e. ⊎_elim (p.0.every i) (p.1.every i) ((has_or S T i).0 e) },
)

-- The test is true exactly of a part.
pub part_iff : (S T : ℕ) → (part S T ≡ true) ↔ (S ⊑ T)
unfolding part
part_iff S T = (
  λ e. record { every = λ i m. ((has_and S T i).0 (rw (eqb-true (bit_and S T) S e) m)).1 },
  λ p. eq-eqb (bit_and S T) S
      (part_antisym (record { every = λ i m. ((has_and S T i).0 m).0 })
      (record { every = λ i m. (has_and S T i).1 (m, p.every i m) })),
)

-- What a part has in common with the whole is the part; so the rules that are left of the whole without it are found by number.
pub part_and : {S T : ℕ} → S ⊑ T → bit_and S T ≡ S
unfolding part
part_and {S} {T} p = eqb-true (bit_and S T) S ((part_iff S T).1 p)

-- A set without what it has of a part is the set less the part.
pub less_part : {S T : ℕ} → S ⊑ T → T - bit_and T S ≡ T - S
less_part {S} {T} p = ap (λ (U : ℕ). T - U) (and_comm T S ∙ part_and p)

pub has_less : {S T : ℕ} → T ⊑ S → (i : ℕ) → (has (S - T) i ≡ true) ↔ ((has S i ≡ true) × (¬ (has T i ≡ true)))
has_less {S} {T} p i =
    subst (λ (U : ℕ). (has (S - U) i ≡ true) ↔ ((has S i ≡ true) × (¬ (has T i ≡ true)))) (and_comm S T ∙ part_and p) (has_minus S T i)

-- A part is told by the first n rules, and by the others.
pub part_split : (n S T : ℕ) → part S T ≡ (part (S / 2 ^ n) (T / 2 ^ n) && part (S % 2 ^ n) (T % 2 ^ n))
part_split n S T =
    alike (part S T) (part (S / 2 ^ n) (T / 2 ^ n) && part (S % 2 ^ n) (T % 2 ^ n))
    (λ e.
    let p = (part_iff S T).0 e in
    both.1 (
      (part_iff (S / 2 ^ n) (T / 2 ^ n)).1 (record { every = λ i m. has_high n T i ∙ p.every (n + i) (sym (has_high n S i) ∙ m) }),
      (part_iff (S % 2 ^ n) (T % 2 ^ n)).1 (record {
        every = λ i m.
            let l = has_below n (S % 2 ^ n) i (mod-lt S (pow_pos n)) m in
            has_low n T i l ∙ p.every i (sym (has_low n S i l) ∙ m);
      }),
    ))
    (λ e. (part_iff S T).1 (record { every = λ i m. told (both.0 e).0 (both.0 e).1 i m (dec_lt i n) }))
  where
    both : ((part (S / 2 ^ n) (T / 2 ^ n) && part (S % 2 ^ n) (T % 2 ^ n)) ≡ true) ↔ ((part (S / 2 ^ n) (T / 2 ^ n) ≡ true) × (part (S % 2 ^ n) (T % 2 ^ n) ≡ true))
    both = and-eq-true_iff (part (S / 2 ^ n) (T / 2 ^ n)) (part (S % 2 ^ n) (T % 2 ^ n))

    told : part (S / 2 ^ n) (T / 2 ^ n) ≡ true → part (S % 2 ^ n) (T % 2 ^ n) ≡ true → (i : ℕ) → has S i ≡ true → Dec (i < n) → has T i ≡ true
    told p q i m (yes l) = sym (has_low n T i l) ∙ ((part_iff (S % 2 ^ n) (T % 2 ^ n)).0 q).every i (has_low n S i l ∙ m)
    told p q i m (no g) =
        let e : n + (i - n) ≡ i = omega arith in
        ap (has T) (sym e) ∙ sym (has_high n T (i - n))
        ∙ ((part_iff (S / 2 ^ n) (T / 2 ^ n)).0 p).every (i - n) (has_high n S (i - n) ∙ ap (has S) e ∙ m)

-- Of two sets of R rules, the more is taken away the less is left.
pub part_rest : (R S T : ℕ) → T < 2 ^ R → S ⊑ T → full R - T ⊑ full R - S
part_rest R S T h p =
    record {
      every = λ i e.
          let r = (has_rest R T i h).0 e in
          (has_rest R S i (omega (arith, part_le p))).1 (r.0, λ m. r.1 (p.every i m));
    }

-- ---- one rule less, one rule more

pub has_without : (S i j : ℕ) → (has (without S i) j ≡ true) ↔ ((has S j ≡ true) × (j ≢ i))
unfolding without
has_without S i j = (
  λ e. let r = (has_minus S (2 ^ i) j).0 e in (r.0, λ same. r.1 ((has_one i j).1 same)),
  λ p. (has_minus S (2 ^ i) j).1 (p.0, λ e. p.1 ((has_one i j).0 e)),
)

pub has_with : (S i j : ℕ) → (has (with S i) j ≡ true) ↔ ((has S j ≡ true) ⊎ (j ≡ i))
unfolding with
has_with S i j = (
  λ e. ⊎_elim inl (λ one. inr ((has_one i j).0 one)) ((has_or S (2 ^ i) j).0 e),
  λ p. (has_or S (2 ^ i) j).1 (⊎_elim inl (λ same. inr ((has_one i j).1 same)) p),
)

-- A set is a part of what it is with one rule more, and stays a set of R rules by one of them.
pub with_above : (S i : ℕ) → S ⊑ with S i
with_above S i = record { every = λ j m. (has_with S i j).1 (inl m) }

pub with_below : (R S i : ℕ) → S < 2 ^ R → i < R → with S i < 2 ^ R
with_below R S i l b = lt_of_le_ones R (has_le (with S i) (full R) (λ j m. (has_full R j).1 (rule j ((has_with S i j).0 m))))
  where
    rule : (j : ℕ) → (has S j ≡ true) ⊎ (j ≡ i) → j < R
    rule j (inl m) = has_below R S j l m
    rule j (inr e) = omega arith

pub without_part : (S i : ℕ) → without S i ⊑ S
without_part S i = record { every = λ j e. ((has_without S i j).0 e).0 }

-- It has no greater number, so it stays a set of as many rules.
pub without_le : (S i : ℕ) → without S i ≤ S
without_le S i = part_le (without_part S i)

-- It is a part of a larger set without the rule, and has as a part what lacks the rule.
pub without_more : {S T : ℕ} (i : ℕ) → T ⊑ S → without T i ⊑ without S i
without_more {S} {T} i p = record { every = λ j e. let w = (has_without T i j).0 e in (has_without S i j).1 (p.every j w.0, w.1) }

pub without_above : {S T : ℕ} (i : ℕ) → T ⊑ S → has T i ≡ false → T ⊑ without S i
without_above {S} {T} i p n =
    record { every = λ j e. (has_without S i j).1 (p.every j e, λ same. true≢false (sym e ∙ ap (has T) same ∙ n)) }

-- A proper part lacks a rule of the whole, so it is a part of the whole without that rule.
pub proper_without : {S T : ℕ} → ProperPart T S → (i : ℕ) × (has S i ≡ true) × (T ⊑ without S i)
proper_without {S} {T} p =
    let r = has_some (S - bit_and S T) (omega (arith, and_le_r S T, proper_lt p)) in
    let only = (has_minus S T r.0).0 r.1 in (
      r.0,
      only.0,
      record {
        every = λ j e. (has_without S r.0 j).1 (p.within.every j e, λ same. only.1 (rw same at e));
      },
    )

-- A set without one of its rules is a proper part of it.
pub without_proper : (S i : ℕ) → has S i ≡ true → ProperPart (without S i) S
without_proper S i e =
    record { within = without_part S i; other = λ same. ((has_without S i i).0 (rw same e)).1 refl }

-- ---- a shared rule

-- Two sets share a rule exactly when what they have in common is not set 0.
pub shares_iff : (S T : ℕ) → (Shares S T) ↔ (bit_and S T ≢ 0)
shares_iff S T = (
  λ s e. has_zero s.rule (rw e at ((has_and S T s.rule).1 (s.in_first, s.in_second))),
  λ n. let r = has_some (bit_and S T) n in
      let both = (has_and S T r.0).0 r.1 in
      record { rule = r.0; in_first = both.0; in_second = both.1 },
)

-- A rule alone shares a rule with T exactly when T has it.
pub shares_one : (i T : ℕ) → (Shares (2 ^ i) T) ↔ (has T i ≡ true)
shares_one i T = (
  λ s. rw ((has_one i s.rule).0 s.in_first) at s.in_second,
  λ e. record { rule = i; in_first = (has_one i i).1 refl; in_second = e },
)

-- A set that shares no rule with S is a part of what is left without S; and a part of that shares no rule with S.
pub apart_iff : (R S T : ℕ) → S < 2 ^ R → T < 2 ^ R → (¬ Shares S T) ↔ (T ⊑ full R - S)
apart_iff R S T hS hT = (
  λ n. record {
    every = λ i e.
        (has_rest R S i hS).1 (has_below R T i hT e, λ m. n (record { rule = i; in_first = m; in_second = e }));
  },
  λ p s. ((has_rest R S s.rule hS).0 (p.every s.rule s.in_second)).1 s.in_first,
)

pub shares_both : {S T : ℕ} → Shares S T → Shares T S
shares_both s = record { rule = s.rule; in_first = s.in_second; in_second = s.in_first }

-- The test for sets apart tells those that share no rule.
pub apart_tells : (S T : ℕ) → (apart S T ≡ true) ↔ (¬ Shares S T)
unfolding apart
apart_tells S T = (λ e s. (shares_iff S T).0 s (eqb-true (bit_and S T) 0 e), λ n. go n (eqb (bit_and S T) 0) refl)
  where
    go : ¬ Shares S T → (b : Bool) → eqb (bit_and S T) 0 ≡ b → b ≡ true
    go n true e = refl
    go n false e = absurd (n ((shares_iff S T).1 (λ z. true≢false (sym (eq-eqb (bit_and S T) 0 z) ∙ e))))

-- A set is apart from T exactly when it is a part of all rules but those of T.
pub apart_part : (R S T : ℕ) → S < 2 ^ R → T < 2 ^ R → apart S T ≡ part S (full R - T)
apart_part R S T hS hT =
    alike (apart S T) (part S (full R - T))
    (λ e. (part_iff S (full R - T)).1 ((apart_iff R T S hT hS).0 (λ s. (apart_tells S T).0 e (shares_both s))))
    (λ e. (apart_tells S T).1 (λ s. (apart_iff R T S hT hS).1 ((part_iff S (full R - T)).0 e) (shares_both s)))

-- ---- the order

pub before_irrefl : (S : ℕ) → ¬ Before S S
before_irrefl S (fewer l) = omega arith
before_irrefl S (as_many e l) = omega arith
