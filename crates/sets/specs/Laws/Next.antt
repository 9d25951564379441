-- The first number that passes is the one of which that is said, and with it begins the list of all that pass, which are those that are selected.
-- From the definitions, by induction on how many numbers are left.
use Prim.Native.Nat.{ℕ, zero, suc, ◌+◌, ◌-◌, ◌≤◌, ◌<◌}
use Rattle.std.specs.Prelude.{◌≡◌, Bool, cond, Option, Some, None, List, [], ◌∷◌, ◌++◌, length, filter}
use Rattle.std.specs.List.{find, range_with_len}
use Rattle.std.proofs.Math.Path.{refl}
use Rattle.std.proofs.Common.{sym, ap, ◌∙◌, true≢false}
use Rattle.std.proofs.Math.Bool.{true, false}
use native.Mathlib.Omega.{arith}
use Rattle.std.proofs.Math.Decide.{dec_lt, ℕ_discrete}
use Rattle.sets.specs.Laws.Choice.{by_test}
use Rattle.sets.specs.Lists.{joined, one_if, select}
use Rattle.sets.specs.Next.{NextFrom, next_if_any, passing_from}

module _ (p : ℕ → Bool) where
  -- ---- one or none

  -- What is said of the k numbers from s on, where r was found among them, or nothing.
  data Found (s k : ℕ) (o : Option ℕ) : Type 0 where
    one : (r : ℕ) → o ≡ Some r → s ≤ r → r < s + k → p r ≡ true → ((j : ℕ) → s ≤ j → j < r → p j ≡ false) → Found s k o
    no_one : o ≡ None → ((j : ℕ) → s ≤ j → j < s + k → p j ≡ false) → Found s k o

  -- No number behind the first passes, or one does.
  module _ (s : ℕ) (e : p s ≡ false) where
    behind : {r : ℕ} → ((j : ℕ) → s + 1 ≤ j → j < r → p j ≡ false) → (j : ℕ) → s ≤ j → j < r → p j ≡ false
    behind none j a b =
        elim (ℕ_discrete j s) [ yes same ↦ rw same e | no other ↦ none j (omega (arith, other)) b ]

    further : {k : ℕ} {o : Option ℕ} → Found (s + 1) k o → Found s (suc k) o
    further (one r q a l t none) = one r q (omega arith) (omega arith) t (behind none)
    further (no_one q none) = no_one q (behind (λ j a b. none j a (omega arith)))

  found : (s k : ℕ) → Found s k (find p (range_with_len s k))
  found s zero = no_one refl (λ j a b. absurd (omega arith))
  found s (suc k) =
      by_test (Found s (suc k)) (p s)
      (λ t. one s refl (omega arith) (omega arith) t (λ j a b. absurd (omega arith)))
      (λ t. further s t (found (s + 1) k))

  -- Only one number from s on and below n is the next one.
  only_next : {s n a b : ℕ} → s ≤ n → NextFrom p s n a → NextFrom p s n b → a ≤ b
  only_next {s} {n} {a} {b} l f g =
      elim (dec_lt b a) [
        | yes h ↦ absurd (true≢false (sym (g.passes (omega (arith, f.within))) ∙ f.passed b (g.after l) h))
        | no h ↦ omega arith
      ]

  pub one_next : {s n a b : ℕ} → s ≤ n → NextFrom p s n a → NextFrom p s n b → a ≡ b
  one_next l f g = omega (arith, only_next l f g, only_next l g f)

  -- What is said of the next number that passes; and where none passes.
  pub next_is_some : {s n r : ℕ} → next_if_any p s n ≡ Some r → (s ≤ r) × (r < n) × NextFrom p s n r
  unfolding next_if_any
  next_is_some {s} {n} {r} e = go (found s (n - s))
    where
      go : Found s (n - s) (find p (range_with_len s (n - s))) → (s ≤ r) × (r < n) × NextFrom p s n r
      go (one t q a l y none) =
          let same : t ≡ r = cc in
          (omega arith, omega arith, record { within = omega arith; after = λ _. omega arith; passes = λ _. rw same at y; passed = λ k b c. none k b (omega arith) })
      go (no_one q none) = absurd (cc)

  pub next_is_none : {s n : ℕ} → next_if_any p s n ≡ None → (k : ℕ) → s ≤ k → k < n → p k ≡ false
  unfolding next_if_any
  next_is_none {s} {n} e = go (found s (n - s))
    where
      go : Found s (n - s) (find p (range_with_len s (n - s))) → (k : ℕ) → s ≤ k → k < n → p k ≡ false
      go (one t q a l y none) = absurd (cc)
      go (no_one q none) = λ k a b. none k a (omega arith)

  -- The same the other way round.
  pub is_some_next : {s n r : ℕ} → s ≤ r → r < n → NextFrom p s n r → next_if_any p s n ≡ Some r
  unfolding next_if_any
  is_some_next {s} {n} {r} a l f = go (found s (n - s))
    where
      go : Found s (n - s) (find p (range_with_len s (n - s))) → find p (range_with_len s (n - s)) ≡ Some r
      go (one t q b m y none) = q ∙ ap Some (one_next (omega arith) (record { within = omega arith; after = λ _. b; passes = λ _. y; passed = none }) f)
      go (no_one q none) = absurd (true≢false (sym (f.passes l) ∙ none r a (omega arith)))

  pub is_none_next : {s n : ℕ} → ((k : ℕ) → s ≤ k → k < n → p k ≡ false) → next_if_any p s n ≡ None
  unfolding next_if_any
  is_none_next {s} {n} all = go (found s (n - s))
    where
      go : Found s (n - s) (find p (range_with_len s (n - s))) → find p (range_with_len s (n - s)) ≡ None
      go (one t q b m y none) = absurd (true≢false (sym y ∙ all t b (omega arith)))
      go (no_one q none) = q

  -- ---- all that pass

  none_among : (s k : ℕ) → ((j : ℕ) → s ≤ j → j < s + k → p j ≡ false) → filter p (range_with_len s k) ≡ []
  none_among s zero none = refl
  none_among s (suc k) none = rw (none s (omega arith) (omega arith)) (none_among (s + 1) k (λ j a b. none j (omega arith) (omega arith)))

  pub none_passing : {s n : ℕ} → ((k : ℕ) → s ≤ k → k < n → p k ≡ false) → passing_from p s n ≡ []
  unfolding passing_from
  none_passing {s} {n} none = none_among s (n - s) (λ j a b. none j a (omega arith))

  one_among : (s m r k : ℕ) → s ≤ r → s + m ≡ r + suc k → p r ≡ true → ((j : ℕ) → s ≤ j → j < r → p j ≡ false)
      → filter p (range_with_len s m) ≡ r ∷ filter p (range_with_len (r + 1) k)
  one_among s zero r k a h e none = absurd (omega arith)
  one_among s (suc m) r k a h e none =
      elim (ℕ_discrete r s) [
        | yes same ↦ let rest : m ≡ k = omega arith in rw (← same, e, rest)
        | no other ↦ rw (none s (omega arith) (omega (arith, other)))
            (one_among (s + 1) m r k (omega (arith, other)) (omega arith) e (λ j b c. none j (omega arith) c))
      ]

  -- No more pass than there are.
  length_among : (s k : ℕ) → length (filter p (range_with_len s k)) ≤ k
  length_among s zero = omega arith
  length_among s (suc k) =
      by_test (λ (l : List ℕ). length l ≤ suc k) (p s) (λ t. omega (arith, length_among (s + 1) k)) (λ t. omega (arith, length_among (s + 1) k))

  pub length_passing : (s n : ℕ) → length (passing_from p s n) ≤ n - s
  unfolding passing_from
  length_passing s n = length_among s (n - s)

  -- The first number that passes, and those behind it.
  pub first_passing : {s n r : ℕ} → s ≤ r → r < n → NextFrom p s n r → passing_from p s n ≡ r ∷ passing_from p (r + 1) n
  unfolding passing_from
  first_passing {s} {n} {r} a l f = one_among s (n - s) r (n - (r + 1)) a (omega arith) (f.passes l) f.passed

  one_more : (s k m : ℕ) → s + k ≡ m → filter p (range_with_len s (suc k)) ≡ filter p (range_with_len s k) ++ one_if (p m) m
  unfolding one_if
  one_more s zero m e = let same : s ≡ m = omega arith in rw same (by_test (λ l. l ≡ one_if (p m) m) (p m) (λ t. rw t) (λ t. rw t))
  one_more s (suc k) m e =
      let later = one_more (s + 1) k m (omega arith) in
      ap (λ l. cond (p s) (s ∷ l) l) later ∙ pushed (p s) _ _
    where
      pushed : (b : Bool) (l k : List ℕ) → cond b (s ∷ (l ++ k)) (l ++ k) ≡ cond b (s ∷ l) l ++ k
      pushed true l k = refl
      pushed false l k = refl

  -- Those from the first number on are those that are selected.
  pub passing_select : (n : ℕ) → passing_from p 0 n ≡ select p n
  unfolding passing_from select joined
  passing_select n = let all : n - 0 ≡ n = omega arith in rw all (go n)
    where
      go : (n : ℕ) → filter p (range_with_len 0 n) ≡ select p n
      go zero = refl
      go (suc n) = one_more 0 n n (omega arith) ∙ ap (λ (l : List ℕ). l ++ one_if (p n) n) (go n)
