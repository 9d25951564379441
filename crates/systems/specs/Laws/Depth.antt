-- The depth of a system. To look at runs with fewer steps than there are states is enough: where k steps are the fewest from some
-- states to a bad one, there are states from which 0, 1, .. k steps are the fewest, so there are more than k states. Assumes nothing.
use Rattle.std.specs.Prelude.{ℕ, zero, suc, ◌≤◌, ◌<◌, ◌≡◌, Bool, true, false}
use Rattle.std.proofs.Common.{sym, ◌∙◌, true≢false, arith}
use mathlib.Mathlib.Data.Bool.Basic.{eq-false_of_not-eq-true}
use Rattle.systems.specs.Least.{least, any}
use Rattle.systems.specs.Laws.Least.{IsLeast, least_is_least, least_at_most, any_intro, any_elim, any_none}
use Rattle.systems.specs.Count.{count}
use Rattle.systems.specs.Laws.Count.{count_le, count_more}
use Rattle.systems.specs.System.{System}
use Rattle.systems.specs.Verdict.{breaks_in, breaks_from, pick, depth}
use Rattle.systems.specs.Laws.Breaks.{Candidate, breaks_in_suc, breaks_from_intro, pick_candidate}

-- k steps are the fewest that can lead from the states `from` to a bad state.
abbrev Fewest : System → (ℕ → Bool) → ℕ → Type 0
Fewest M from k = IsLeast (suc k) (breaks_from M from) k

-- From state s, fewer than k steps can lead to a bad state.
breaks_below : System → ℕ → ℕ → Bool
breaks_below M k s = any k (λ j. breaks_in M j s)

-- From the state that is picked, then, no fewer than k steps lead to a bad one.
pick_no_sooner : (M : System) (from : ℕ → Bool) (k : ℕ) → Fewest M from k → (j : ℕ) → j < k → breaks_in M j (pick M from k) ≡ false
pick_no_sooner M from k r j h =
    let c : Candidate M from k (pick M from k) = pick_candidate M from k (r.passes (omega arith)) in
    eq-false_of_not-eq-true
    (λ e. true≢false (sym (breaks_from_intro (record { state = c.state; among = c.among; breaks = e })) ∙ r.before j h))

-- So it is one state more with a bad state less than suc k steps away,
one_more : (M : System) (from : ℕ → Bool) (k : ℕ) → Fewest M from k
    → count M.size (breaks_below M k) < count M.size (breaks_below M (suc k))
unfolding breaks_below
one_more M from k r =
    let s : ℕ = pick M from k in
    let c : Candidate M from k s = pick_candidate M from k (r.passes (omega arith)) in
    count_more (breaks_below M k) (breaks_below M (suc k)) wider M.size s c.state
    (any_none k (λ j. breaks_in M j s) (pick_no_sooner M from k r))
    (any_intro (suc k) (λ j. breaks_in M j s) k (omega arith) c.breaks)
  where
    wider : (u : ℕ) → breaks_below M k u ≡ true → breaks_below M (suc k) u ≡ true
    wider u e =
        let (h, f) = any_elim k (λ j. breaks_in M j u) e in
        any_intro (suc k) (λ j. breaks_in M j u) (least k (λ j. breaks_in M j u)) (omega arith) f

-- and there are at least k with one less than k steps away.
at_least : (M : System) (from : ℕ → Bool) (k : ℕ) → Fewest M from k → k ≤ count M.size (breaks_below M k)
at_least M from zero r = omega arith
at_least M from (suc k) r =
    let s : ℕ = pick M from (suc k) in
    let next : Fewest M (M.step s) k = record {
      within = omega arith;
      passes = λ _. sym (breaks_in_suc M k s) ∙ (pick_candidate M from (suc k) (r.passes (omega arith))).breaks;
      before = λ j h. sym (breaks_in_suc M j s) ∙ pick_no_sooner M from (suc k) r (suc j) (omega arith);
    } in
    omega (arith, at_least M (M.step s) k next, one_more M (M.step s) k next)

-- The depth is the least number of steps, below the number of states, from a start state to a bad one.
pub depth_is_least : (M : System) → IsLeast M.size (breaks_from M M.start) (depth M)
unfolding depth
depth_is_least M = least_is_least M.size (breaks_from M M.start)

pub depth_at_most : (M : System) (k : ℕ) → breaks_from M M.start k ≡ true → depth M ≤ k
unfolding depth
depth_at_most M k e = least_at_most M.size (breaks_from M M.start) k e

-- If any number of steps can lead from a start state to a bad one, one below the number of states can.
pub depth_finds : (M : System) (k : ℕ) → breaks_from M M.start k ≡ true → depth M < M.size
depth_finds M k e =
    let d : ℕ = least (suc k) (breaks_from M M.start) in
    let l : IsLeast (suc k) (breaks_from M M.start) d = least_is_least (suc k) (breaks_from M M.start) in
    let h : d ≤ k = least_at_most (suc k) (breaks_from M M.start) k e in
    let f : breaks_from M M.start d ≡ true = l.passes (omega arith) in
    let r : Fewest M M.start d = record { within = omega arith; passes = λ _. f; before = l.before } in
    omega (
      arith,
      at_least M M.start d r,
      one_more M M.start d r,
      count_le M.size (breaks_below M (suc d)),
      depth_at_most M d f,
    )
