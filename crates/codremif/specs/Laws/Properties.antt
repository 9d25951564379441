-- Several properties together: what the calls answer for an accepted text is told by what they answer for the texts with one of its properties alone.
-- From the laws of a model and its properties (`semantics`), the cores of a conjunction of judgements (`sets`), demand 2, and how calls tell answers.
use Rattle.std.specs.Prelude.{ℕ, ◌^◌, ◌≤◌, ◌<◌, ◌≡◌, refl, ◌↔◌, true, false, List, length, take}
use Rattle.std.proofs.Math.Path.{sym}
use Rattle.std.proofs.Common.{ap, ◌∙◌, subst, arith}
use Rattle.sets.specs.Cores.{Monotone}
use Rattle.sets.specs.Lists.{bytes_of}
use Rattle.sets.specs.Joint.{Each, joint}
use Rattle.sets.specs.Laws.Choice.{alike}
use Rattle.sets.specs.Laws.Growth.{cores_of_agree}
use Rattle.sets.proofs.Laws.Joint.{joint_tabulate, joint_cores}
use Rattle.sets.specs.Laws.Tabulated.{each_tabulate}
use Rattle.refusals.specs.Answers.{Accepted, Given}
use Rattle.models.specs.Written.{Legal, model_in}
use Rattle.models.proofs.Accepted.{told_back}
use Rattle.models.specs.Changed.{by_property}
use Rattle.models.proofs.Laws.Changed.{by_property_legal}
use Rattle.systems.specs.System.{Trace}
use Rattle.systems.specs.Verdict.{holds, trace_of}
use Rattle.systems.specs.Judged.{judged}
use Rattle.systems.specs.Laws.Holds.{breach_broken}
use Rattle.systems.specs.Properties.{FirstOfTraces, JointlyJudged}
use Rattle.semantics.specs.Meaning.{system_of, judge}
use Rattle.semantics.proofs.Laws.Properties.{judged_jointly}
use Rattle.sorting.specs.declared.which.WhichList.TheVariants.{Cores}
use Rattle.sorting.specs.Which.{listed}
use Rattle.calls.specs.declared.verdict.Verdict.TheVariants.{Broken}
use Rattle.calls.specs.Answers.{rules_in, system_in, judge_in, list_in, text_outcome, judge_answer, judge_bytes}
use Rattle.calls.proofs.Laws.Answers.{judge_enough, verdict_broken}
use Rattle.calls.proofs.Laws.Sizes.{trace_le}
use Rattle.codremif.specs.Suffices.{TextTelling, text_by_answers, text_by_hosts}
use Rattle.codremif.specs.Properties.{properties_in, text_by, judgements_by, FirstShown, JointList, SeveralProperties}
use Rattle.codremif.specs.Laws.Written.{written_accepted, written_rules, written_system, written_judge, told_legal}
use Rattle.codremif.specs.Laws.Demand2.{judging_meets_demand2}
use Rattle.codremif.specs.Laws.Demand3.{monotone_in}
use Rattle.codremif.specs.Laws.Telling.{Tells, answers_tell, hosts_tell}

-- ---- what is shown

-- Judging set S of an accepted text shows its trace, of n states.
module _ (text : List ℕ) (model : text_outcome text ≡ Accepted) (S : ℕ) (set : S < 2 ^ rules_in text) (lent : List ℕ) (n : ℕ) (e : judge_answer text S lent ≡ Given (Broken n)) where
  shown_trace : Trace (system_in text S) (take n (judge_bytes text S lent))
  shown_trace = (judging_meets_demand2 text model S set lent).shown n e

  shown_is : take n (judge_bytes text S lent) ≡ trace_of (system_in text S)
  shown_is = (judged (system_in text S)).only _ shown_trace

  shown_length : length (trace_of (system_in text S)) ≡ n
  shown_length = sym (ap length shown_is) ∙ (judging_meets_demand2 text model S set lent).exact n e

  shown_broken : holds (system_in text S) ≡ false
  shown_broken = breach_broken shown_trace.breach

-- ---- an accepted text

module _ (text : List ℕ) (model : text_outcome text ≡ Accepted) where
  legal_by : (j : ℕ) → j < properties_in text → Legal (by_property j (model_in text))
  unfolding properties_in
  legal_by j h = by_property_legal j (model_in text) h (told_legal text model)

  accepted_by : (j : ℕ) → j < properties_in text → text_outcome (text_by j text) ≡ Accepted
  unfolding text_by
  accepted_by j h = written_accepted (by_property j (model_in text)) (legal_by j h)

  model_by : (j : ℕ) → j < properties_in text → model_in (text_by j text) ≡ by_property j (model_in text)
  unfolding text_by
  model_by j h = told_back (by_property j (model_in text)) (legal_by j h)

  rules_by : (j : ℕ) → j < properties_in text → rules_in (text_by j text) ≡ rules_in text
  unfolding text_by rules_in by_property
  rules_by j h = written_rules (by_property j (model_in text)) (legal_by j h)

  system_by_lem : (j : ℕ) → j < properties_in text → (S : ℕ) → system_in (text_by j text) S ≡ system_of (by_property j (model_in text)) S
  unfolding text_by
  system_by_lem j h = written_system (by_property j (model_in text)) (legal_by j h)

  -- The sets are judged jointly.
  jointly : (S : ℕ) → JointlyJudged (system_in text S) (properties_in text) (λ j. system_of (by_property j (model_in text)) S)
  unfolding properties_in system_in
  jointly S = judged_jointly (model_in text) S

  held_by : (j : ℕ) → j < properties_in text → (S : ℕ) → judge_in (text_by j text) S ≡ holds (system_of (by_property j (model_in text)) S)
  unfolding text_by judge
  held_by j h S = written_judge (by_property j (model_in text)) (legal_by j h) S

  verdict_iff : (S : ℕ) → (judge_in text S ≡ true) ↔ ((j : ℕ) → j < properties_in text → judge_in (text_by j text) S ≡ true)
  unfolding judge_in judge system_in
  verdict_iff S = (
    λ e j h. held_by j h S ∙ (jointly S).verdict.0 e j h,
    λ f. (jointly S).verdict.1 (λ j h. sym (held_by j h S) ∙ f j h),
  )

  -- ---- the cores

  joint_list : JointList text (bytes_of (list_in Cores text))
  unfolding list_in listed judgements_by
  joint_list = record { sets = list_in Cores text; written = refl; unions = rw (cores_of_agree (rules_in text) (judge_in text) (joint (judgements_by text)) same) (joint_cores (rules_in text) (judgements_by text) monotone).core_list }
    where
      same : (S : ℕ) → S < 2 ^ rules_in text → judge_in text S ≡ joint (judgements_by text) S
      same S _ =
          let each = joint_tabulate (properties_in text) (λ j. judge_in (text_by j text)) S in
          alike (judge_in text S) _ (λ e. each.1 ((verdict_iff S).0 e)) (λ e. (verdict_iff S).1 (each.0 e))

      monotone : Each (Monotone (rules_in text)) (judgements_by text)
      monotone = (each_tabulate (Monotone (rules_in text)) (properties_in text) (λ j. judge_in (text_by j text))).1
          (λ j h. subst (λ R. Monotone R (judge_in (text_by j text))) (rules_by j h) (monotone_in (text_by j text)))

  -- ---- the trace

  module _ (j : ℕ) (h : j < properties_in text) (S : ℕ) (set : S < 2 ^ rules_in text) where
    set_by : S < 2 ^ rules_in (text_by j text)
    set_by = rw (rules_by j h) set

    -- By a property that breaks the set its trace is shown, where enough bytes are lent.
    broken_by : holds (system_of (by_property j (model_in text)) S) ≡ false → (lent : List ℕ) → 128 ≤ length lent
        → judge_answer (text_by j text) S lent ≡ Given (Broken (length (trace_of (system_of (by_property j (model_in text)) S))))
    broken_by e lent b =
        (judge_enough (text_by j text) (accepted_by j h) S lent set_by (omega (arith, trace_le (text_by j text) S))).says
        ∙ ap Given (rw (system_by_lem j h S) (verdict_broken (system_of (by_property j (model_in text)) S) e))

    -- What is shown by a property is the trace by it.
    module _ (lent : List ℕ) (n : ℕ) (e : judge_answer (text_by j text) S lent ≡ Given (Broken n)) where
      is_by : take n (judge_bytes (text_by j text) S lent) ≡ trace_of (system_of (by_property j (model_in text)) S)
      is_by = shown_is (text_by j text) (accepted_by j h) S set_by lent n e ∙ ap trace_of (system_by_lem j h S)

      length_by : length (trace_of (system_of (by_property j (model_in text)) S)) ≡ n
      length_by = sym (ap (λ N. length (trace_of N)) (system_by_lem j h S)) ∙ shown_length (text_by j text) (accepted_by j h) S set_by lent n e

      not_held_by : holds (system_of (by_property j (model_in text)) S) ≡ false
      not_held_by = sym (ap holds (system_by_lem j h S)) ∙ shown_broken (text_by j text) (accepted_by j h) S set_by lent n e

  module _ {J L M : Type 0} (w : TextTelling J L M) (t : Tells w) (S : ℕ) (set : S < 2 ^ rules_in text) (lent : List ℕ) (n : ℕ) (few : n ≤ 128) (e : judge_answer text S lent ≡ Given (Broken n)) where
    first_of : FirstOfTraces (properties_in text) (λ j. system_of (by_property j (model_in text)) S) (trace_of (system_in text S))
    first_of = (jointly S).trace (shown_broken text model S set lent n e)

    run_is : take n (judge_bytes text S lent) ≡ trace_of (system_in text S)
    run_is = shown_is text model S set lent n e

    run_length : length (trace_of (system_in text S)) ≡ n
    run_length = shown_length text model S set lent n e

    abbrev p : ℕ
    p = first_of.property

    abbrev within : p < properties_in text
    within = first_of.within

    by_p : (more : List ℕ) → 128 ≤ length more → judge_answer (text_by p text) S more ≡ Given (Broken n)
    by_p more b = broken_by p within S set first_of.broken more b ∙ ap (λ (k : ℕ). Given (Broken k)) (sym (ap length first_of.its_trace) ∙ run_length)

    first_shown : FirstShown w text S n (take n (judge_bytes text S lent))
    first_shown = record {
      property = p;
      within = within;
      broken = λ more b. (t.broken (text_by p text) S more n few).1 (by_p more b);
      shown = λ more b. is_by p within S set more n (by_p more b) ∙ sym first_of.its_trace ∙ sym run_is;
      shortest = λ j h more m small q.
          let g = (t.broken (text_by j text) S more m small).0 q in
          omega (arith, first_of.shortest j h (not_held_by j h S set more m g), run_length, length_by j h S set more m g);
      first = λ j h more q.
          let g = (t.broken (text_by j text) S more n few).0 q in
          rw (run_is, is_by j h S set more n g) (first_of.first j h (not_held_by j h S set more n g) (length_by j h S set more n g ∙ sym run_length));
    }

  -- ---- all of it

  properties_together : {J L M : Type 0} (w : TextTelling J L M) → Tells w → SeveralProperties w text
  unfolding properties_in
  properties_together w t = record {
    count = (told_legal text model).properties;
    alone = λ j h. record { accepted = accepted_by j h; model = model_by j h; judges = t.judges (text_by j text) (accepted_by j h) };
    verdict = λ S set lent. (
      λ e j h. ((t.judges (text_by j text) (accepted_by j h)).by_call S (set_by j h S set) lent).0 ((verdict_iff S).0 (((t.judges text model).by_call S set lent).1 e) j h),
      λ f. ((t.judges text model).by_call S set lent).0 ((verdict_iff S).1 (λ j h. ((t.judges (text_by j text) (accepted_by j h)).by_call S (set_by j h S set) lent).1 (f j h))),
    );
    trace = λ S set lent n few e. first_shown w t S set lent n few ((t.broken text S lent n few).0 e);
    cores = λ list r. rw (t.wrote text model Cores list r) joint_list;
  }

  -- The calls in Rattle, and the exported ones.
  pub calls_together : SeveralProperties text_by_answers text
  calls_together = properties_together text_by_answers answers_tell

  pub hosts_together : SeveralProperties text_by_hosts text
  hosts_together = properties_together text_by_hosts hosts_tell
