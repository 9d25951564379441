-- What document 02 says of rules that speak about power-up is true of every accepted text. From demand 2, the start states of a model, and what a model
-- with its missing start parts written out means.
use Rattle.std.specs.Prelude.{ℕ, suc, ◌^◌, ◌≤◌, ◌<◌, ◌≡◌, refl, ◌↔◌, true, not, List, [], ◌∷◌, leb, length, get_or, take}
use Rattle.std.proofs.Math.Path.{sym, ap, ap₂, fun_ext}
use Rattle.std.proofs.Common.{◌∙◌, arith}
use Rattle.std.proofs.Math.Option.{none}
use mir.Val.{bool_byte}
use Rattle.sets.specs.Tabulated.{tabulate}
use Rattle.sets.specs.Lists.{bytes_of}
use Rattle.sets.specs.Orders.{is_order}
use Rattle.sets.specs.OneCore.{one_core_of}
use Rattle.refusals.specs.Answers.{Accepted, Answer, Given, RefusedBy}
use Rattle.models.specs.Written.{Described, rule_at, Legal, written_model, model_in}
use Rattle.models.specs.Changed.{starts_written_out}
use Rattle.models.proofs.Laws.Changed.{length_written_out, written_out_legal}
use Rattle.models.proofs.Accepted.{told_back}
use Rattle.systems.specs.System.{System, last, Breach}
use Rattle.systems.specs.Verdict.{holds, trace_of}
use Rattle.systems.specs.Judged.{judged}
use Rattle.systems.specs.Laws.Walks.{walk_one}
use Rattle.systems.specs.Laws.Holds.{breach_broken}
use Rattle.traces.specs.Marked.{is_marked}
use Rattle.searches.specs.Search.{search}
use Rattle.semantics.specs.Meaning.{init_met, start_met, step_met, property_met, step_of, bad_of, system_of, judge}
use Rattle.semantics.proofs.Laws.Meaning.{start_iff, no_start_parts}
use Rattle.semantics.proofs.Laws.Changed.{written_out_start, written_out_step, written_out_system}
use Rattle.sorting.specs.declared.which.WhichList.{WhichList}
use Rattle.sorting.specs.declared.kinds.Kind.{Kind}
use Rattle.sorting.specs.Which.{listed, of_kind}
use Rattle.calls.specs.declared.verdict.Verdict.{Verdict}
use Rattle.calls.specs.declared.verdict.Verdict.TheVariants.{Holds, Broken}
use Rattle.preferences.specs.Answer.{one_core_in, order_outcome, one_core_outcome, one_core_answer}
use Rattle.logs.specs.Log.{is_log, blame_of}
use Rattle.logs.proofs.Laws.Log.{blame_same}
use Rattle.blaming.specs.Answer.{blame_in, log_outcome, init_outcome, blame_outcome, blame_answer}
use Rattle.calls.specs.Answers.{rules_in, states_in, system_in, judge_in, trace_in, marks_in, pairs_in, list_in, kind_in, ◌or_else◌, refused_if, text_outcome, set_outcome, read_outcome, length_outcome, asked_outcome, judge_outcome, reached_outcome, list_outcome, given, after, verdict_of, judge_answer, judge_bytes, reached_answer, reached_bytes, list_answer, list_bytes, kind_answer}
use Rattle.codremif.specs.Demand2.{Demand2}
use Rattle.codremif.specs.PowerUp.{MeetsAtStart, system_by_init, starts_written_in, SameAnswers, PowerUp}
use Rattle.codremif.specs.Laws.Demand2.{judging_meets_demand2}
use Rattle.codremif.specs.Laws.Written.{written_accepted, written_rules, written_system, told_legal}

-- ---- texts that mean the same

-- Two texts that are accepted alike, with as many rules, for each set of them the same system, and for each log the same said, have the same answers.
module _ (text first : List ℕ) (outcome : text_outcome text ≡ text_outcome first) (rules : rules_in text ≡ rules_in first)
    (systems : (S : ℕ) → system_in text S ≡ system_in first S) (init : (s : ℕ) → init_met (model_in text) s ≡ init_met (model_in first) s)
    (blames : (log : List ℕ) → blame_in text log ≡ blame_in first log)
  where
    states_same : states_in text ≡ states_in first
    unfolding states_in system_in system_of
    states_same = ap (λ M. M.size) (systems 0)

    verdicts_same : judge_in text ≡ judge_in first
    unfolding judge_in judge system_in
    verdicts_same = fun_ext (λ S. ap holds (systems S))

    trace_same : (S : ℕ) → trace_in text S ≡ trace_in first S
    unfolding trace_in
    trace_same S = ap trace_of (systems S)

    marks_same : (S : ℕ) → marks_in text S ≡ marks_in first S
    unfolding marks_in
    marks_same S = ap₂ (λ n M. tabulate n (λ s. bool_byte (is_marked (search M).runs s))) states_same (systems S)

    pairs_same : (S : ℕ) → pairs_in text S ≡ pairs_in first S
    unfolding pairs_in
    pairs_same S = ap (λ M. (search M).pairs) (systems S)

    list_same : (which : WhichList) → list_in which text ≡ list_in which first
    unfolding list_in
    list_same which = ap₂ (listed which) rules verdicts_same

    kind_same : (kind : Kind) → kind_in kind text ≡ kind_in kind first
    unfolding kind_in
    kind_same kind = ap₂ (of_kind kind) rules verdicts_same

    core_same : (order : List ℕ) → one_core_in text order ≡ one_core_in first order
    unfolding one_core_in
    core_same order = ap₂ (λ R h. one_core_of R h order) rules verdicts_same

    asked_same : (S : ℕ) {new new₁ : List ℕ} → new ≡ new₁ → (lent : List ℕ) → asked_outcome text S new lent ≡ asked_outcome first S new₁ lent
    unfolding asked_outcome read_outcome set_outcome
    asked_same S p lent =
        ap₂ ◌or_else◌ (ap₂ ◌or_else◌ outcome (ap (λ R. refused_if (leb (2 ^ R) S) 10) rules)) (ap (λ new. length_outcome new lent) p)

    judge_same : (S : ℕ) (lent : List ℕ) → judge_outcome text S lent ≡ judge_outcome first S lent
    unfolding judge_outcome
    judge_same S lent = asked_same S (trace_same S) lent

    reached_same : (S : ℕ) (lent : List ℕ) → reached_outcome text S lent ≡ reached_outcome first S lent
    unfolding reached_outcome
    reached_same S lent = asked_same S (marks_same S) lent

    listing_same : (which : WhichList) (lent : List ℕ) → list_outcome which text lent ≡ list_outcome which first lent
    unfolding list_outcome
    listing_same which lent = ap₂ ◌or_else◌ outcome (ap (λ l. length_outcome (bytes_of l) lent) (list_same which))

    order_same : (order : List ℕ) → one_core_outcome text order ≡ one_core_outcome first order
    unfolding one_core_outcome order_outcome
    order_same order = ap₂ ◌or_else◌ outcome (ap (λ R. refused_if (not (is_order R order)) 13) rules)

    log_same : (log : List ℕ) → blame_outcome text log ≡ blame_outcome first log
    unfolding blame_outcome log_outcome init_outcome
    log_same log =
        ap₂ ◌or_else◌ outcome (ap₂ (λ n met. refused_if (not (is_log n log)) 14 or_else refused_if (not met) 15) states_same (init (get_or log 0 0)))

    same_answers : SameAnswers text first
    unfolding judge_answer judge_bytes reached_answer reached_bytes list_answer list_bytes kind_answer one_core_answer blame_answer
    same_answers = record {
      judged = λ S lent. ap₂ (λ o M. given o (verdict_of M)) (judge_same S lent) (systems S);
      traced = λ S lent. ap₂ (λ o l. after o l lent) (judge_same S lent) (trace_same S);
      reached = λ S lent. ap₂ (λ o n. given o n) (reached_same S lent) (pairs_same S);
      marked = λ S lent. ap₂ (λ o l. after o l lent) (reached_same S lent) (marks_same S);
      counted = λ which lent. ap₂ (λ o l. given o (length l)) (listing_same which lent) (list_same which);
      listed = λ which lent. ap₂ (λ o l. after o (bytes_of l) lent) (listing_same which lent) (list_same which);
      sorted = λ kind. ap₂ (λ o S. given o S) outcome (kind_same kind);
      ordered = λ order. ap₂ (λ o c. given o c) (order_same order) (core_same order);
      blamed = λ log. ap₂ (λ o b. given o b) (log_same log) (blames log);
    }

-- ---- runs of one state

-- a list of one state ends in its first
one_last : (l : List ℕ) → length l ≡ 1 → last l ≡ get_or l 0 0
unfolding last
one_last [] h = refl
one_last (s ∷ []) h = refl
one_last (s ∷ t ∷ l) h = absurd (omega arith)

-- a start state that is bad is a run to a bad state
one_breach : (M : System) (s : ℕ) → s < M.size → M.start s ≡ true → M.bad s ≡ true → Breach M (s ∷ [])
unfolding last
one_breach M s h a b = record { walk = walk_one h a; ends = b }

-- and a run of one state to a bad state is such a state
breach_one : (M : System) (l : List ℕ) → length l ≡ 1 → Breach M l → (s : ℕ) × (s < M.size) × (M.start s ≡ true) × (M.bad s ≡ true)
breach_one M l h b =
    (get_or l 0 0, b.walk.states 0 (omega arith), b.walk.first, ap M.bad (sym (one_last l h)) ∙ b.ends)

module _ (text : List ℕ) (model : text_outcome text ≡ Accepted) where
  starts : (S s : ℕ) → ((system_in text S).start s ≡ true) ↔ MeetsAtStart text S s
  unfolding system_in system_of rules_in
  starts S s = start_iff (model_in text) S s

  -- ---- judging a set

  -- A state that meets `init` and the start part of each rule in the set, and breaks a property.
  abbrev BadAtStart : ℕ → Type 0
  BadAtStart S = (s : ℕ) × (s < states_in text) × MeetsAtStart text S s × (bad_of (model_in text) s ≡ true)

  module _ (S : ℕ) (set : S < 2 ^ rules_in text) (lent : List ℕ) where
    demand : Demand2 text S lent
    demand = judging_meets_demand2 text model S set lent

    no_start : ((s : ℕ) → s < states_in text → ¬ MeetsAtStart text S s) → judge_answer text S lent ≡ Given Holds
    unfolding system_in system_of states_in
    no_start lacks = demand.held.1 (λ run b. lacks (get_or run 0 0) (b.walk.states 0 b.walk.nonempty) ((starts S (get_or run 0 0)).0 b.walk.first))

    one_shown : judge_answer text S lent ≡ Given (Broken 1) → BadAtStart S
    unfolding system_in system_of states_in
    one_shown q =
        let w = breach_one (system_in text S) (take 1 (judge_bytes text S lent)) (demand.exact 1 q) (demand.shown 1 q).breach in
        (w.0, w.1, (starts S w.0).0 w.2, w.3)

    bad_breach : (w : BadAtStart S) → Breach (system_in text S) (w.0 ∷ [])
    unfolding system_in system_of states_in
    bad_breach w = one_breach (system_in text S) w.0 w.1 ((starts S w.0).1 w.2) w.3

    shown_there : 1 ≤ length lent → (w : BadAtStart S) → (a : Answer Verdict) → judge_answer text S lent ≡ a → a ≡ Given (Broken 1)
    shown_there h w (RefusedBy number line) q =
        let t = (judged (system_in text S)).broken (breach_broken (bad_breach w)) in
        absurd (omega (arith, demand.enough number line q _ t, t.shortest (w.0 ∷ []) (bad_breach w)))
    shown_there h w (Given Holds) q = absurd (demand.held.0 q (w.0 ∷ []) (bad_breach w))
    shown_there h w (Given (Broken n)) q =
        let t = demand.shown n q in
        ap (λ (k : ℕ). Given (Broken k)) (omega (arith, t.shortest (w.0 ∷ []) (bad_breach w), demand.exact n q, t.breach.walk.nonempty))

  -- ---- a missing start part

  -- A log says the same of a model with its start parts written out.
  said_of_written_out : (M : Described) → Legal (starts_written_out M) → (log : List ℕ)
      → blame_in (written_model (starts_written_out M)) log ≡ blame_of (length M.rules) (start_met M) (step_met M) (bad_of M) log
  unfolding blame_in rules_in starts_written_out bad_of property_met
  said_of_written_out M l log =
      ap (λ D. blame_of (length D.rules) (start_met D) (step_met D) (bad_of D) log) (told_back (starts_written_out M) l)
      ∙ ap (λ (R : ℕ). blame_of R (start_met (starts_written_out M)) (step_met (starts_written_out M)) (bad_of M) log) (length_written_out M)
      ∙ blame_same (length M.rules) (start_met (starts_written_out M)) (start_met M) (step_met (starts_written_out M)) (step_met M) (bad_of M) (bad_of M) log
      (λ i h. written_out_start M i (get_or log 0 0) h) (λ i k h g. written_out_step M i (get_or log k 0) (get_or log (suc k) 0) h)
      (λ k h. refl)

  as_one : SameAnswers (starts_written_in text) text
  unfolding starts_written_in rules_in system_in blame_in init_met starts_written_out
  as_one =
      let M : Described = model_in text in
      let l : Legal (starts_written_out M) = written_out_legal M (told_legal text model) in
      same_answers (written_model (starts_written_out M)) text (written_accepted (starts_written_out M) l ∙ sym model)
      (written_rules (starts_written_out M) l ∙ length_written_out M)
      (λ S. written_system (starts_written_out M) l S ∙ written_out_system M S)
      (λ s. ap (λ D. init_met D s) (told_back (starts_written_out M) l))
      (said_of_written_out M l)

  as_before : ((i : ℕ) → i < rules_in text → (rule_at (model_in text).rules i).start ≡ none) → (S : ℕ) → system_in text S ≡ system_by_init (model_in text) S
  unfolding system_in system_of system_by_init rules_in
  as_before lacks S =
      let M : Described = model_in text in
      ap (λ start. record { size = 2 ^ M.vars; start = start; step = step_of M S; bad = bad_of M }) (fun_ext (no_start_parts M lacks S))

  pub power_up_told : PowerUp text
  power_up_told = record {
    starts = starts;
    at_once = λ S set lent h. (one_shown S set lent, λ w. shown_there S set lent h w _ refl);
    no_start = λ S set lacks lent. no_start S set lent lacks;
    as_one = as_one;
    as_before = as_before;
  }
