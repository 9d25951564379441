-- Demand 2 is true of what judging a set answers and writes, for every accepted text, every set of its rules and all lent bytes.
-- From the theorem on verdict and trace (`Rattle.systems.specs.Judged`) and the laws of the answers.
use Rattle.std.specs.Prelude.{ℕ, ◌^◌, ◌≤◌, ◌<◌, Bool, List, take}
use Rattle.std.proofs.Math.Path.{◌≡◌, refl, ap}
use Rattle.std.proofs.Common.{sym, ◌∙◌, arith}
use Rattle.std.proofs.Math.Bool.{true, false}
use borrow.Author.Tests.{ltb-true, ltb-false}
use Rattle.std.proofs.Math.Dec.{ltb}
use Rattle.std.proofs.Math.ListN.{length, drop}
use Rattle.std.proofs.Math.Seq.{take_at, drop_at}
use Rattle.sets.specs.Lists.{overwritten}
use Rattle.refusals.specs.Answers.{Accepted, Given, RefusedBy}
use Rattle.systems.specs.System.{System, Breach}
use Rattle.systems.specs.Verdict.{holds}
use Rattle.systems.specs.Laws.Walks.{holds_no_breach, no_breach_holds}
use Rattle.systems.specs.Judged.{judged}
use Rattle.calls.specs.declared.verdict.Verdict.TheVariants.{Holds, Broken}
use Rattle.calls.specs.Answers.{rules_in, system_in, trace_in, text_outcome, verdict_of, judge_answer, judge_bytes}
use Rattle.codremif.specs.Demand2.{Demand2}
use Rattle.calls.proofs.Laws.Answers.{judge_numbers, judge_enough, given_refused, verdict_held, held_verdict, broken_verdict, one_given}

-- Judging a set is refused by 11, or answers the verdict and writes the trace.
data Ends (text : List ℕ) (S : ℕ) (lent : List ℕ) : Type 0 where
  short : length lent < length (trace_in text S) → judge_answer text S lent ≡ RefusedBy 11 0 → Ends text S lent
  told : length (trace_in text S) ≤ length lent → judge_answer text S lent ≡ Given (verdict_of (system_in text S))
      → judge_bytes text S lent ≡ overwritten (trace_in text S) lent → Ends text S lent

module _ (text : List ℕ) (model : text_outcome text ≡ Accepted) (S : ℕ) (set : S < 2 ^ rules_in text) (lent : List ℕ) where
  ends : Ends text S lent
  unfolding judge_answer
  ends = go (ltb (length lent) (length (trace_in text S))) refl
    where
      go : (b : Bool) → ltb (length lent) (length (trace_in text S)) ≡ b → Ends text S lent
      go true e =
          let l = ltb-true (length lent) (length (trace_in text S)) e in
          short l (given_refused _ ((judge_numbers text S lent).by_length model set l))
      go false e =
          let l = ltb-false (length lent) (length (trace_in text S)) e in
          let g = judge_enough text model S lent set l in
          told l g.says g.writes

  M : System
  M = system_in text S

  -- A set whose trace does not fit is broken.
  not_held : length lent < length (trace_in text S) → ((run : List ℕ) → Breach M run → ⊥) → ⊥
  unfolding M trace_in
  not_held l none = let e = (judged M).held ((judged M).verdict.1 (no_breach_holds none)) in omega (arith, ap length e)

  held_there : Ends text S lent → judge_answer text S lent ≡ Given Holds → (run : List ℕ) → Breach M run → ⊥
  unfolding M
  held_there (short l a) q = let e = sym a ∙ q in cc
  held_there (told l a w) q = holds_no_breach ((judged M).verdict.0 (held_verdict M (one_given (sym a ∙ q))))

  held_back : Ends text S lent → ((run : List ℕ) → Breach M run → ⊥) → judge_answer text S lent ≡ Given Holds
  unfolding M
  held_back (short l a) none = absurd (not_held l none)
  held_back (told l a w) none = a ∙ ap Given (verdict_held M ((judged M).verdict.1 (no_breach_holds none)))

  -- What a broken verdict says of the lent bytes.
  written : Ends text S lent → (n : ℕ) → judge_answer text S lent ≡ Given (Broken n)
      → (holds M ≡ false) × (length (trace_in text S) ≡ n) × (judge_bytes text S lent ≡ overwritten (trace_in text S) lent)
  unfolding M trace_in
  written (short l a) n q = let e = sym a ∙ q in cc
  written (told l a w) n q = let v = broken_verdict M n (one_given (sym a ∙ q)) in (v.0, v.1, w)

  front : (n : ℕ) → judge_answer text S lent ≡ Given (Broken n) → take n (judge_bytes text S lent) ≡ trace_in text S
  unfolding overwritten
  front n q =
      let w = written ends n q in
      ap (take n) w.2 ∙ take_at (trace_in text S) (drop (length (trace_in text S)) lent) n w.1

  too_short : Ends text S lent → (number line : ℕ) → judge_answer text S lent ≡ RefusedBy number line → length lent < length (trace_in text S)
  unfolding M
  too_short (short l a) number line q = l
  too_short (told l a w) number line q = let e = sym a ∙ q in cc

  pub judging_meets_demand2 : Demand2 text S lent
  unfolding M trace_in overwritten
  judging_meets_demand2 = record {
    held = (held_there ends, held_back ends);
    shown = λ n q. rw (front n q) ((judged M).broken (written ends n q).0);
    exact = λ n q. ap length (front n q) ∙ (written ends n q).1;
    past = λ n q.
        let w = written ends n q in
        ap (drop n) w.2 ∙ drop_at (trace_in text S) (drop (length (trace_in text S)) lent) n w.1 ∙ ap (λ k. drop k lent) w.1;
    enough = λ number line q run r. omega (arith, too_short ends number line q, ap length ((judged M).only run r));
  }
