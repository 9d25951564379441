-- The verdict and the trace by several properties together come from those by each. A breach by one property is a joint breach, and a joint
-- breach is one by some property, so the joint trace is the trace of that property. From the laws of `Compare` and `Judged`. Assumes nothing.
use Rattle.std.specs.Prelude.{ℕ, ◌<◌, ◌≡◌, false, List}
use Rattle.std.proofs.Common.{sym, ◌∙◌, true≢false}
use mathlib.Mathlib.Data.Bool.Basic.{eq-true_of_not-eq-false}
use Rattle.systems.specs.System.{System, last, Breach, Trace}
use Rattle.systems.specs.Verdict.{holds, trace_of}
use Rattle.systems.specs.Judged.{judged}
use Rattle.systems.specs.Laws.Holds.{breach_broken}
use Rattle.systems.specs.Laws.Compare.{Part, run_kept, part_breach, part_holds, part_trace}
use Rattle.systems.specs.Properties.{Jointly, FirstOfTraces, JointlyJudged}

module _ {J : System} {n : ℕ} {M : ℕ → System} (c : Jointly J n M) where
  one_part : {j : ℕ} → j < n → Part (M j) J
  one_part {j} h = record {
    size = c.size j h;
    start = λ s _ e. sym (c.start j h s) ∙ e;
    step = λ s t _ _ e. sym (c.step j h s t) ∙ e;
    bad = λ s _ e. (c.bad s).1 (j, h, e);
  }

  its_breach : {j : ℕ} → j < n → holds (M j) ≡ false → Breach J (trace_of (M j))
  its_breach {j} h e = part_breach (one_part h) ((judged (M j)).broken e).breach

  some_breach : {l : List ℕ} → Breach J l → (j : ℕ) × (j < n) × Breach (M j) l
  some_breach {l} b =
      let (j, h, e) = (c.bad (last l)).0 b.ends in (
        j,
        h,
        record {
          walk = run_kept (sym (c.size j h)) (λ s _ g. c.start j h s ∙ g) (λ s t _ _ g. c.step j h s t ∙ g) b.walk;
          ends = e;
        },
      )

  pub jointly_judged : JointlyJudged J n M
  jointly_judged = record {
    verdict = (
      λ e j h. part_holds (one_part h) e,
      λ each. eq-true_of_not-eq-false (λ e. let t = first e in true≢false (sym (each t.property t.within) ∙ t.broken)),
    );
    trace = first;
  }
    where
      first : holds J ≡ false → FirstOfTraces n M (trace_of J)
      first e =
          let t : Trace J (trace_of J) = (judged J).broken e in
          let (j, h, b) = some_breach t.breach in
          record {
            property = j;
            within = h;
            broken = breach_broken b;
            its_trace = (judged (M j)).only (trace_of J) (part_trace (one_part h) b t);
            shortest = λ i g f. t.shortest (trace_of (M i)) (its_breach g f);
            first = λ i g f. t.first (trace_of (M i)) (its_breach g f);
          }
