-- Demand 3 is true of an accepted text and of what the three calls give for it, in Rattle and for a C host.
-- From demand 3 for any monotone judgement (`sets`), the monotonicity of the verdict (`semantics`), demand 2 and the laws of the answers.
use Rattle.std.specs.Prelude.{ℕ, ◌^◌, ◌<◌, ◌≡◌, refl, ◌↔◌, true, List}
use Rattle.std.proofs.Math.Path.{ap}
use Rattle.std.proofs.Common.{◌∙◌, arith}
use Rattle.std.proofs.Math.Logic.Iff
use Rattle.sets.specs.Cores.{Monotone}
use Rattle.sets.specs.Demand3.{Demand3}
use Rattle.sets.proofs.Laws.Demand3.{demand3}
use Rattle.refusals.specs.Answers.{Accepted, Answer, Given, RefusedBy}
use Rattle.models.specs.Written.{model_in}
use Rattle.systems.specs.System.{Breach}
use Rattle.systems.specs.Laws.Walks.{holds_no_breach, no_breach_holds}
use Rattle.systems.specs.Judged.{judged}
use Rattle.semantics.specs.Meaning.{judge}
use Rattle.semantics.proofs.Laws.Meaning.{judge_monotone}
use Rattle.sorting.specs.declared.which.WhichList.{WhichList}
use Rattle.sorting.specs.declared.which.WhichList.TheVariants.{Cores, Cuts}
use Rattle.sorting.specs.Which.{listed, of_kind}
use Rattle.calls.specs.declared.verdict.Verdict.{Verdict}
use Rattle.calls.specs.declared.verdict.Verdict.TheVariants.{Holds, Broken}
use Rattle.sorting.specs.declared.kinds.Kind.TheVariants.{Must}
use Rattle.calls.specs.Answers.{rules_in, system_in, judge_in, list_in, kind_in, text_outcome, judge_answer, list_answer, list_bytes}
use Rattle.packing.specs.Packing.{accepted, refused, parts_by, verdict_parts, number_parts, judge_parts, list_parts, set_parts, packed}
use Rattle.codremif.specs.Demand3.{in_rattle, for_hosts, Asked, GivesList, Judges, TextDemand3, AsCalled, host_asked}
use Rattle.calls.proofs.Laws.Answers.{list_numbers, list_enough, kind_given, given_refused, after_refused}
use Rattle.codremif.specs.Laws.Demand2.{judging_meets_demand2}
use Rattle.codremif.specs.Laws.Host.{judge_reads}

-- A packed answer is 2^40 exactly where the verdict is that the set holds, if each part fits its place.
holds_packed : (text : List ℕ) (S : ℕ) (lent : List ℕ) → (packed (judge_parts (judge_answer text S lent)) ≡ 2 ^ 40) ↔ (judge_answer text S lent ≡ Given Holds)
unfolding packed judge_parts parts_by verdict_parts accepted refused
holds_packed text S lent = (go (judge_answer text S lent) refl, λ e. ap (λ a. packed (judge_parts a)) e)
  where
    go : (a : Answer Verdict) → judge_answer text S lent ≡ a → packed (judge_parts a) ≡ 2 ^ 40 → a ≡ Given Holds
    go (Given Holds) q e = refl
    go (Given (Broken n)) q e =
        let r = (judge_reads text S lent).range in
        let few = ap (λ a. (judge_parts a).amount) q in
        absurd (omega (arith, r.amount))
    go (RefusedBy number line) q e =
        let r = (judge_reads text S lent).range in
        let few = ap (λ a. (judge_parts a).number) q in
        let short = ap (λ a. (judge_parts a).line) q in
        absurd (omega (arith, r.number, r.line))

-- By the judgement of a text's sets, a set holds if a part of it does.
pub monotone_in : (text : List ℕ) → Monotone (rules_in text) (judge_in text)
unfolding rules_in judge_in
monotone_in text = judge_monotone (model_in text)

module _ (text : List ℕ) (model : text_outcome text ≡ Accepted) where
  by_runs : (S : ℕ) → S < 2 ^ rules_in text → (judge_in text S ≡ true) ↔ ((run : List ℕ) → Breach (system_in text S) run → ⊥)
  unfolding judge_in judge system_in
  by_runs S l = (
    λ e. holds_no_breach ((judged (system_in text S)).verdict.0 e),
    λ none. (judged (system_in text S)).verdict.1 (no_breach_holds none),
  )

  -- A set holds exactly when judging it answers so.
  pub by_call : (S : ℕ) → S < 2 ^ rules_in text → (lent : List ℕ) → (judge_in text S ≡ true) ↔ (judge_answer text S lent ≡ Given Holds)
  by_call S l lent = Iff.trans (by_runs S l) (Iff.symm (judging_meets_demand2 text model S l lent).held)

  -- So it is told by the call in Rattle, and by the exported one.
  pub judges_in : Judges in_rattle text (judge_in text)
  unfolding in_rattle
  judges_in = record { by_runs = by_runs; by_call = by_call }

  pub judges_packed : Judges for_hosts text (judge_in text)
  unfolding for_hosts
  judges_packed = record { by_runs = by_runs; by_call = λ S l lent. Iff.trans (by_call S l lent) (Iff.symm (holds_packed text S lent)) }

  the_lists : Demand3 (rules_in text) (judge_in text) (list_in Cores text) (list_in Cuts text) (kind_in Must text)
  unfolding list_in listed kind_in of_kind
  the_lists = demand3 (rules_in text) (judge_in text) (monotone_in text)

  pub list_given : (which : WhichList) (lent : List ℕ) → GivesList in_rattle (list_in which text) lent (list_answer which text lent) (list_bytes which text lent)
  unfolding in_rattle list_answer list_bytes
  list_given which lent =
      let n = list_numbers which text lent in
      record {
        count = λ h. (list_enough text model which lent h).says;
        written = λ h. (list_enough text model which lent h).writes;
        refused = λ h. given_refused _ (n.by_length model h);
        kept = λ h. after_refused _ _ (n.by_length model h);
      }

  pub list_packed : (which : WhichList) (lent : List ℕ) → GivesList for_hosts (list_in which text) lent (packed (list_parts (list_answer which text lent))) (list_bytes which text lent)
  unfolding in_rattle for_hosts packed list_parts parts_by number_parts accepted refused
  list_packed which lent =
      let g = list_given which lent in
      record {
        count = λ h. ap (λ a. packed (list_parts a)) (g.count h) ∙ omega arith;
        written = g.written;
        refused = λ h. ap (λ a. packed (list_parts a)) (g.refused h);
        kept = g.kept;
      }

  -- What was given as called is what demand 3 asks for.
  pub calls_meet_demand3 : {a : Asked (Answer ℕ) (Answer ℕ)} → AsCalled text a → TextDemand3 in_rattle text a
  unfolding in_rattle
  calls_meet_demand3 {a} c = record {
    judgement = judge_in text;
    judged = judges_in;
    cores = list_in Cores text;
    cuts = list_in Cuts text;
    must = kind_in Must text;
    demanded = the_lists;
    cores_given = rw (c.cores, c.cores_written) (list_given Cores a.cores_lent);
    cuts_given = rw (c.cuts, c.cuts_written) (list_given Cuts a.cuts_lent);
    must_given = c.must ∙ kind_given text model Must;
  }

  -- So is what the exported calls give.
  pub hosts_meet_demand3 : (cores_lent cuts_lent : List ℕ) → TextDemand3 for_hosts text (host_asked text cores_lent cuts_lent)
  unfolding for_hosts host_asked packed set_parts parts_by number_parts accepted
  hosts_meet_demand3 cores_lent cuts_lent = record {
    judgement = judge_in text;
    judged = judges_packed;
    cores = list_in Cores text;
    cuts = list_in Cuts text;
    must = kind_in Must text;
    demanded = the_lists;
    cores_given = list_packed Cores cores_lent;
    cuts_given = list_packed Cuts cuts_lent;
    must_given = ap (λ a. packed (set_parts a)) (kind_given text model Must) ∙ omega arith;
  }
