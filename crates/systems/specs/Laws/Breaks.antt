-- Laws of `breaks_in`, `pick` and `greedy`: they find exactly the walks to a bad state, and of those of one length the earliest.
-- From the laws of walks and of `least`. Assumes nothing.
use Rattle.std.specs.Prelude.{ℕ, zero, suc, ◌≤◌, ◌<◌, ◌≡◌, refl, ◌⊎◌, Bool, true, ◌&&◌, List, [], ◌∷◌, length}
use Rattle.std.proofs.Common.{sym, ap, ◌∙◌, inl, inr, ⊎_elim, eq-or-lt_of_le, arith}
use Rattle.std.proofs.Math.Bool.{and-eq-true_iff}
use Rattle.systems.specs.Laws.Least.{least_at_most, any_intro, any_elim}
use Rattle.systems.specs.System.{System, last, BadWalk, Earlier}
use Rattle.systems.specs.Verdict.{breaks_in, breaks_from, pick, greedy}
use Rattle.systems.specs.Laws.Walks.{walk_one, walk_cons, badwalk_rest, last_cons, earlier_head, earlier_rest}

breaks_in_zero : (M : System) (s : ℕ) → breaks_in M zero s ≡ M.bad s
unfolding breaks_in
breaks_in_zero M s = refl

pub breaks_in_suc : (M : System) (k s : ℕ) → breaks_in M (suc k) s ≡ breaks_from M (M.step s) k
unfolding breaks_in breaks_from
breaks_in_suc M k s = refl

-- s is one of the states `from`, and k steps can lead from it to a bad state.
pub record Candidate (M : System) (from : ℕ → Bool) (k s : ℕ) : Type 0 where
  pub state : s < M.size
  pub among : from s ≡ true
  pub breaks : breaks_in M k s ≡ true

module _ {M : System} {from : ℕ → Bool} {k s : ℕ} (c : Candidate M from k s) where
  passes : (from s && breaks_in M k s) ≡ true
  passes = (and-eq-true_iff (from s) (breaks_in M k s)).1 (c.among, c.breaks)

  pub breaks_from_intro : breaks_from M from k ≡ true
  unfolding breaks_from
  breaks_from_intro = any_intro M.size (λ t. from t && breaks_in M k t) s c.state passes

  pick_least : pick M from k ≤ s
  unfolding pick
  pick_least = least_at_most M.size (λ t. from t && breaks_in M k t) s passes

-- If there is a candidate, `pick` is the least one.
pub pick_candidate : (M : System) (from : ℕ → Bool) (k : ℕ) → breaks_from M from k ≡ true → Candidate M from k (pick M from k)
unfolding breaks_from pick
pick_candidate M from k e =
    let s : ℕ = pick M from k in
    let (h, f) = any_elim M.size (λ t. from t && breaks_in M k t) e in
    let (a, b) = (and-eq-true_iff (from s) (breaks_in M k s)).0 f in
    record { state = h; among = a; breaks = b }

-- The first state of a walk to a bad state is a candidate.
pub candidate : {M : System} {from : ℕ → Bool} {s : ℕ} (r : List ℕ) → BadWalk M from (s ∷ r) → Candidate M from (length r) s
unfolding last
candidate {M} {from} {s} [] b = record {
  state = b.walk.states zero (omega arith);
  among = b.walk.first;
  breaks = breaks_in_zero M s ∙ b.ends;
}
candidate {M} {from} {s} (t ∷ r) b = record {
  state = b.walk.states zero (omega arith);
  among = b.walk.first;
  breaks = breaks_in_suc M (length r) s ∙ breaks_from_intro (candidate r (badwalk_rest b));
}

pub length_greedy : (M : System) (from : ℕ → Bool) (k : ℕ) → length (greedy M from k) ≡ suc k
unfolding greedy
length_greedy M from zero = refl
length_greedy M from (suc k) = ap suc (length_greedy M (M.step (pick M from (suc k))) k)

-- Where k steps can lead from `from` to a bad state, the greedy walk is such a walk.
pub greedy_breaks : (M : System) (from : ℕ → Bool) (k : ℕ) → breaks_from M from k ≡ true → BadWalk M from (greedy M from k)
unfolding greedy last
greedy_breaks M from zero e =
    let c : Candidate M from zero (pick M from zero) = pick_candidate M from zero e in
    record { walk = walk_one c.state c.among; ends = sym (breaks_in_zero M (pick M from zero)) ∙ c.breaks }
greedy_breaks M from (suc k) e =
    let s : ℕ = pick M from (suc k) in
    let c : Candidate M from (suc k) s = pick_candidate M from (suc k) e in
    let l : List ℕ = greedy M (M.step s) k in
    let b : BadWalk M (M.step s) l = greedy_breaks M (M.step s) k (sym (breaks_in_suc M k s) ∙ c.breaks) in
    record { walk = walk_cons c.state c.among b.walk; ends = ap M.bad (last_cons s l b.walk.nonempty) ∙ b.ends }

-- Every other such walk of its length comes later.
pub greedy_first : (M : System) (from : ℕ → Bool) (s : ℕ) (r : List ℕ) → BadWalk M from (s ∷ r)
    → (greedy M from (length r) ≡ s ∷ r) ⊎ Earlier (greedy M from (length r)) (s ∷ r)
unfolding greedy
greedy_first M from s [] b =
    ⊎_elim (λ e. inl (ap (λ p. p ∷ []) e)) (λ h. inr (earlier_head h)) (eq-or-lt_of_le (pick_least (candidate [] b)))
greedy_first M from s (t ∷ r) b =
    ⊎_elim (λ e. rw e (earlier_rest (greedy_first M (M.step s) t r (badwalk_rest b)))) (λ h. inr (earlier_head h))
    (eq-or-lt_of_le (pick_least (candidate (t ∷ r) b)))
