-- Two systems compared: with fewer start states, steps and bad states a system holds if the other does (source document 000, Lemma 1),
-- and systems that agree on their states have the same verdict and the same trace. Assumes nothing.
use Rattle.std.specs.Prelude.{ℕ, zero, suc, ◌<◌, ◌≡◌, true, false, List}
use Rattle.std.proofs.Common.{sym, ◌∙◌, ⊎_elim, arith}
use mathlib.Mathlib.Data.Bool.Basic.{dichotomy, partial_order_laws}
use Rattle.systems.specs.System.{System, last, Run, Breach, Holds, Trace}
use Rattle.systems.specs.Verdict.{holds, trace_of}
use Rattle.systems.specs.Laws.Walks.{walk_last, holds_no_breach, no_breach_holds}
use Rattle.systems.specs.Judged.{judged}
use Rattle.systems.specs.Laws.Holds.{holds_iff}

-- N has the states of M, and its start states, steps and bad states are among those of M.
pub record Part (N M : System) : Type 0 where
  pub size : N.size ≡ M.size
  pub start : (s : ℕ) → s < N.size → N.start s ≡ true → M.start s ≡ true
  pub step : (s t : ℕ) → s < N.size → t < N.size → N.step s t ≡ true → M.step s t ≡ true
  pub bad : (s : ℕ) → s < N.size → N.bad s ≡ true → M.bad s ≡ true

-- N and M agree on their states.
pub record Same (N M : System) : Type 0 where
  pub size : N.size ≡ M.size
  pub start : (s : ℕ) → s < N.size → N.start s ≡ M.start s
  pub step : (s t : ℕ) → s < N.size → t < N.size → N.step s t ≡ M.step s t
  pub bad : (s : ℕ) → s < N.size → N.bad s ≡ M.bad s

-- Where N has the states of M, and its start states and steps are among those of M, every run of N is a run of M.
pub run_kept : {N M : System} → N.size ≡ M.size → ((s : ℕ) → s < N.size → N.start s ≡ true → M.start s ≡ true)
    → ((s t : ℕ) → s < N.size → t < N.size → N.step s t ≡ true → M.step s t ≡ true) → {l : List ℕ} → Run N l → Run M l
run_kept size start step w = record {
  nonempty = w.nonempty;
  states = λ i h. omega (arith, w.states i h, size);
  first = start _ (w.states zero w.nonempty) w.first;
  steps = λ i h. step _ _ (w.states i (omega arith)) (w.states (suc i) h) (w.steps i h);
}

module _ {N M : System} (p : Part N M) where
  pub part_breach : {l : List ℕ} → Breach N l → Breach M l
  part_breach {l} b = record {
    walk = run_kept p.size p.start p.step b.walk;
    ends = p.bad (last l) (walk_last l b.walk) b.ends;
  }

  -- Lemma 1 of source document 000: every run of N is a run of M.
  pub part_keeps : Holds M → Holds N
  part_keeps h = no_breach_holds (λ l b. holds_no_breach h l (part_breach b))

  pub part_holds : holds M ≡ true → holds N ≡ true
  part_holds e = (holds_iff N).1 (part_keeps ((holds_iff M).0 e))

  -- The trace of M is that of N if it is a breach of N.
  pub part_trace : {l : List ℕ} → Breach N l → Trace M l → Trace N l
  part_trace b t = record { breach = b; shortest = λ m d. t.shortest m (part_breach d); first = λ m d. t.first m (part_breach d) }

pub same_part : {N M : System} → Same N M → Part N M
same_part e = record {
  size = e.size;
  start = λ s h g. sym (e.start s h) ∙ g;
  step = λ s t h i g. sym (e.step s t h i) ∙ g;
  bad = λ s h g. sym (e.bad s h) ∙ g;
}

pub same_sym : {N M : System} → Same N M → Same M N
same_sym e = record {
  size = sym e.size;
  start = λ s h. sym (e.start s (omega (arith, e.size)));
  step = λ s t h i. sym (e.step s t (omega (arith, e.size)) (omega (arith, e.size)));
  bad = λ s h. sym (e.bad s (omega (arith, e.size)));
}

module _ {N M : System} (e : Same N M) where
  pub same_holds : holds N ≡ holds M
  same_holds = partial_order_laws.le_antisymm (holds N) (holds M) (part_holds (same_part (same_sym e))) (part_holds (same_part e))

  pub same_trace_of : trace_of N ≡ trace_of M
  same_trace_of = ⊎_elim broken (λ h. (judged N).held h ∙ sym ((judged M).held (sym same_holds ∙ h))) (dichotomy (holds N))
    where
      broken : holds N ≡ false → trace_of N ≡ trace_of M
      broken h =
          let t : Trace N (trace_of N) = (judged N).broken h in
          (judged M).only (trace_of N) (part_trace (same_part (same_sym e)) (part_breach (same_part e) t.breach) t)
