-- The verdict and the trace as functions have the meanings of `System`: a verdict holds exactly if there is no breach, and the greedy walk at
-- the depth is the one trace. From the laws of `Breaks` and `Depth`. Assumes nothing.
use Rattle.std.specs.Prelude.{ℕ, suc, ◌≤◌, ◌<◌, ◌≡◌, ◌↔◌, ◌⊎◌, true, false, leb, length}
use Rattle.std.proofs.Math.Path.{refl, ap}
use Rattle.std.proofs.Common.{sym, ◌∙◌, ⊎_elim, arith, leb-true, leb-false}
use Rattle.std.proofs.Math.Bool.{cond}
use mathlib.Core.List.{List, [], ◌∷◌}
use mathlib.Mathlib.Data.Bool.Basic.{eq-true_of_not-eq-false, eq-false_of_not-eq-true}
use Rattle.std.proofs.Math.Nat.{suc_inj}
use Rattle.systems.specs.System.{System, Breach, Holds, Earlier, Trace}
use Rattle.systems.specs.Verdict.{breaks_from, greedy, depth, holds, holds_below, depth_below, trace_of}
use Rattle.systems.specs.Laws.Least.{least_is_least, least_at_most}
use Rattle.systems.specs.Laws.Walks.{holds_no_breach, no_breach_holds, earlier_asym}
use Rattle.systems.specs.Laws.Breaks.{candidate, breaks_from_intro, length_greedy, greedy_breaks, greedy_first}
use Rattle.systems.specs.Laws.Depth.{depth_is_least, depth_at_most, depth_finds}

-- From a start state, as many steps as a breach has can lead to a bad state.
breach_breaks : {M : System} (l : List ℕ) → Breach M l → (k : ℕ) × (length l ≡ suc k) × (breaks_from M M.start k ≡ true)
breach_breaks [] b = absurd (omega (arith, b.walk.nonempty))
breach_breaks (s ∷ r) b = (length r, refl, breaks_from_intro (candidate r b))

-- The verdict on runs with fewer than n steps, which are those with at most n states.
pub holds_below_iff : (M : System) (n : ℕ) → (holds_below M n ≡ true) ↔ ((l : List ℕ) → length l ≤ n → Breach M l → ⊥)
unfolding holds_below
holds_below_iff M n = (none, λ h. eq-true_of_not-eq-false (found h))
  where
    none : holds_below M n ≡ true → (l : List ℕ) → length l ≤ n → Breach M l → ⊥
    none e l h b =
        let (k, g, f) = breach_breaks l b in
        omega (arith, leb-true n (depth_below M n) e, least_at_most n (breaks_from M M.start) k f)

    found : ((l : List ℕ) → length l ≤ n → Breach M l → ⊥) → holds_below M n ≡ false → ⊥
    found h e =
        let d : ℕ = depth_below M n in
        let small : d < n = leb-false n d e in
        h (greedy M M.start d) (omega (arith, length_greedy M M.start d))
        (greedy_breaks M M.start d ((least_is_least n (breaks_from M M.start)).passes small))

pub holds_iff : (M : System) → (holds M ≡ true) ↔ Holds M
unfolding holds depth
holds_iff M = (
  λ e. no_breach_holds (λ l b. let (k, g, f) = breach_breaks l b in omega (arith, leb-true M.size (depth M) e, depth_finds M k f)),
  λ h. (holds_below_iff M M.size).1 (λ l g b. holds_no_breach h l b),
)

-- With a breach, a system is broken.
pub breach_broken : {M : System} {l : List ℕ} → Breach M l → holds M ≡ false
breach_broken {M} {l} b = eq-false_of_not-eq-true (λ e. holds_no_breach ((holds_iff M).0 e) l b)

module _ (M : System) where
  pub trace_of_held : holds M ≡ true → trace_of M ≡ []
  unfolding trace_of
  trace_of_held e = ap (λ b. cond b [] (greedy M M.start (depth M))) e

  pub trace_of_broken : holds M ≡ false → trace_of M ≡ greedy M M.start (depth M)
  unfolding trace_of
  trace_of_broken e = ap (λ b. cond b [] (greedy M M.start (depth M))) e

  holds_depth : holds M ≡ leb M.size (depth M)
  unfolding holds depth
  holds_depth = refl

  pub depth_broken : holds M ≡ false → depth M < M.size
  depth_broken e = leb-false M.size (depth M) (sym holds_depth ∙ e)

  pub length_trace : holds M ≡ false → length (trace_of M) ≡ suc (depth M)
  length_trace e = ap length (trace_of_broken e) ∙ length_greedy M M.start (depth M)

  pub greedy_trace : depth M < M.size → Trace M (greedy M M.start (depth M))
  greedy_trace h = record {
    breach = greedy_breaks M M.start (depth M) ((depth_is_least M).passes h);
    shortest = λ m b. let (k, g, f) = breach_breaks m b in omega (arith, length_greedy M M.start (depth M), depth_at_most M k f);
    first = first;
  }
    where
      first : (m : List ℕ) → Breach M m → length m ≡ length (greedy M M.start (depth M))
          → (greedy M M.start (depth M) ≡ m) ⊎ Earlier (greedy M M.start (depth M)) m
      first [] b e = absurd (omega (arith, b.walk.nonempty))
      first (s ∷ r) b e =
          let k : length r ≡ depth M = suc_inj (e ∙ length_greedy M M.start (depth M)) in
          rw k at (greedy_first M M.start s r b)

-- A system has no more than one trace.
pub trace_only : {M : System} (l m : List ℕ) → Trace M l → Trace M m → l ≡ m
trace_only l m a b =
    let e : length l ≡ length m = omega (arith, a.shortest m b.breach, b.shortest l a.breach) in
    ⊎_elim (λ q. q) (λ x. ⊎_elim sym (λ y. absurd (earlier_asym x y)) (b.first l a.breach e)) (a.first m b.breach (sym e))
