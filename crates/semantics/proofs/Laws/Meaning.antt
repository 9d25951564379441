-- The start states and the steps of a model: a start state of a set meets `init` and the start part of every rule of the set, a step the step part of every
-- rule; every pair is a step of set 0; and more rules have fewer start states and fewer steps, so that a set holds if a part of it does. Also what a model
-- without start parts means. From the definitions and Lemma 1 of source document 000. Assumes nothing.
use Rattle.std.specs.Prelude.{ℕ, zero, suc, ◌<◌, ◌≡◌, refl, ◌↔◌, Bool, true, false, not, ◌&&◌, ◌||◌, length}
use Rattle.std.proofs.Common.{sym, ap₂, arith, below_more}
use Rattle.std.proofs.Math.Path.{ap}
use Rattle.std.proofs.Math.Bool.{and-eq-true_iff}
use Rattle.std.proofs.lemmas.Bool.{false≢true}
use Rattle.std.proofs.Math.Option.{none}
use Rattle.sets.specs.Bit.{has}
use Rattle.sets.specs.Laws.Bit.{has_zero}
use Rattle.sets.specs.Sets.{◌⊑◌}
use Rattle.sets.specs.Cores.{Monotone}
use Rattle.sets.specs.Laws.Choice.{alike}
use Rattle.models.specs.Written.{Described, rule_at}
use Rattle.systems.specs.Laws.Compare.{Part, part_holds}
use Rattle.semantics.specs.Meaning.{every, every_in, init_met, start_part_met, start_met, start_of, step_met, step_of, system_of, judge}

implies_iff : (a b : Bool) → ((not a || b) ≡ true) ↔ (a ≡ true → b ≡ true)
implies_iff true b = (λ e _. e, λ f. f refl)
implies_iff false b = (λ _ e. absurd (false≢true e), λ _. refl)

pub every_iff : (n : ℕ) (p : ℕ → Bool) → (every n p ≡ true) ↔ ((i : ℕ) → i < n → p i ≡ true)
unfolding every
every_iff zero p = (λ e i h. absurd (omega arith), λ f. refl)
every_iff (suc n) p = (
  λ e i h.
      let both = (and-eq-true_iff (every n p) (p n)).0 e in
      below_more (λ (i : ℕ). p i ≡ true) n ((every_iff n p).0 both.0) both.1 i (omega arith),
  λ f. (and-eq-true_iff (every n p) (p n)).1 ((every_iff n p).1 (λ i h. f i (omega arith)), f n (omega arith)),
)

-- Where not every number below n passes, one fails.
pub one_fails : (n : ℕ) (p : ℕ → Bool) → every n p ≡ false → (i : ℕ) × (i < n) × (p i ≡ false)
unfolding every
one_fails zero p f = absurd (false≢true (sym f))
one_fails (suc n) p f = go (every n p) (one_fails n p) f
  where
    go : (a : Bool) → (a ≡ false → (i : ℕ) × (i < n) × (p i ≡ false)) → (a && p n) ≡ false → (i : ℕ) × (i < suc n) × (p i ≡ false)
    go false before g = let w = before refl in (w.0, omega (arith, w.1), w.2)
    go true before g = (n, omega arith, g)

-- Tests that agree below n.
pub every_same : (n : ℕ) (p q : ℕ → Bool) → ((i : ℕ) → i < n → p i ≡ q i) → every n p ≡ every n q
unfolding every
every_same zero p q f = refl
every_same (suc n) p q f = ap₂ ◌&&◌ (every_same n p q (λ i h. f i (omega arith))) (f n (omega arith))

pub every_in_iff : (n S : ℕ) (p : ℕ → Bool) → (every_in n S p ≡ true) ↔ ((i : ℕ) → i < n → has S i ≡ true → p i ≡ true)
unfolding every_in
every_in_iff n S p =
    let all = every_iff n (λ i. not (has S i) || p i) in
    (λ e i h. (implies_iff (has S i) (p i)).0 (all.0 e i h), λ f. all.1 (λ i h. (implies_iff (has S i) (p i)).1 (f i h)))

module _ (M : Described) where
  -- A step of a set is exactly a pair of states that meets the step part of every rule of the set.
  pub step_iff : (S s t : ℕ) → (step_of M S s t ≡ true) ↔ ((i : ℕ) → i < length M.rules → has S i ≡ true → step_met M i s t ≡ true)
  unfolding step_of
  step_iff S s t = every_in_iff (length M.rules) S (λ i. step_met M i s t)

  -- A start state of a set is exactly a state that meets `init` and the start part of every rule of the set.
  pub start_iff : (S s : ℕ)
      → (start_of M S s ≡ true) ↔ ((init_met M s ≡ true) × ((i : ℕ) → i < length M.rules → has S i ≡ true → start_met M i s ≡ true))
  unfolding start_of
  start_iff S s =
      let both = and-eq-true_iff (init_met M s) (every_in (length M.rules) S (λ i. start_met M i s)) in
      let each = every_in_iff (length M.rules) S (λ i. start_met M i s) in
      (λ e. ((both.0 e).0, each.0 (both.0 e).1), λ f. both.1 (f.0, each.1 f.1))

  -- In a model without start parts the start states of every set are those that meet `init`.
  pub no_start_parts : ((i : ℕ) → i < length M.rules → (rule_at M.rules i).start ≡ none) → (S s : ℕ) → start_of M S s ≡ init_met M s
  unfolding start_met start_part_met
  no_start_parts lacks S s =
      alike (start_of M S s) (init_met M s) (λ e. ((start_iff S s).0 e).0) (λ e. (start_iff S s).1 (e, λ i h _. ap (λ o. start_part_met o s) (lacks i h)))

  -- Every pair is a step of set 0.
  pub step_zero : (s t : ℕ) → step_of M 0 s t ≡ true
  step_zero s t = (step_iff 0 s t).1 (λ i h e. absurd (has_zero i e))

  -- More rules have fewer start states and fewer steps, and the same bad states.
  pub more_rules : {S T : ℕ} → S ⊑ T → Part (system_of M T) (system_of M S)
  unfolding system_of
  more_rules {S} {T} p = record {
    size = refl;
    start = λ s _ e. let f = (start_iff T s).0 e in (start_iff S s).1 (f.0, λ i h g. f.1 i h (p.every i g));
    step = λ s t _ _ e. (step_iff S s t).1 (λ i h g. (step_iff T s t).0 e i h (p.every i g));
    bad = λ s _ e. e;
  }

  -- A set holds if a part of it does.
  pub judge_monotone : Monotone (length M.rules) (judge M)
  unfolding judge
  judge_monotone = record { more = λ S T _ p. part_holds (more_rules p) }
