-- The calls give what the table of the starred examples says: traces, cores, cuts and MUST are computed from the texts, and that the calls give
-- them, whatever bytes are lent, is from the laws of the answers. Assumes nothing.
use Rattle.std.specs.Prelude.{ℕ, ◌^◌, ◌≤◌, ◌≡◌, refl, Bool, true, false, cond, ltb, length}
use Rattle.std.proofs.Common.{ap, ◌∙◌, arith, ltb-true}
use mathlib.Core.List.{List, [], ◌∷◌, map, Memᴰ}
use Rattle.sets.specs.Lists.{overwritten}
use Rattle.exprs.specs.Token.{token_of}
use Rattle.exprs.specs.Expr.{size}
use Rattle.lines.specs.Bytes.{belongs}
use Rattle.models.specs.Laws.Tables.{map_agree}
use Rattle.refusals.specs.Answers.{Accepted, Given, Outcome}
use Rattle.systems.specs.System.{System}
use Rattle.systems.specs.Verdict.{holds, trace_of}
use Rattle.systems.specs.Judged.{judged}
use Rattle.sorting.specs.declared.which.WhichList.{WhichList}
use Rattle.sorting.specs.declared.which.WhichList.TheVariants.{Cores, Cuts}
use Rattle.calls.specs.declared.verdict.Verdict.TheVariants.{Holds, Broken}
use Rattle.sorting.specs.declared.kinds.Kind.TheVariants.{Must}
use Rattle.calls.specs.Answers.{rules_in, system_in, trace_in, list_in, kind_in, text_outcome, verdict_of}
use Rattle.codremif.specs.Examples.{Case, table, verdict_for, expected_list, Answered}
use Rattle.calls.proofs.Laws.Answers.{judge_enough, list_enough, kind_given}

-- What is computed from the text of a case, and what the table expects.
record Meaning : Type 0 where
  model : Outcome
  sets : List Bool
  traces : List (List ℕ)
  cores : List ℕ
  cuts : List ℕ
  must : ℕ

computed : Case → Meaning
unfolding text_outcome rules_in trace_in list_in kind_in
computed c = record {
  model = text_outcome c.text;
  sets = map (λ j. ltb j.set (2 ^ rules_in c.text)) c.judged;
  traces = map (λ j. trace_in c.text j.set) c.judged;
  cores = list_in Cores c.text;
  cuts = list_in Cuts c.text;
  must = kind_in Must c.text;
}

expected : Case → Meaning
expected c = record {
  model = Accepted;
  sets = map (λ j. true) c.judged;
  traces = map (λ j. j.trace) c.judged;
  cores = c.cores;
  cuts = c.cuts;
  must = c.must;
}

-- The whole table, from the texts.
computes : map computed table ≡ map expected table
unfolding computed expected table belongs token_of size
computes = refl

-- The verdict that goes with the trace of a system is its verdict.
verdict_trace : (M : System) → verdict_of M ≡ verdict_for (trace_of M)
unfolding verdict_for verdict_of
verdict_trace M = go (holds M) refl
  where
    nonempty : (l : List ℕ) → 1 ≤ length l → Broken (length l) ≡ verdict_for l
    nonempty [] h = absurd (omega arith)
    nonempty (s ∷ l) h = refl

    go : (b : Bool) → holds M ≡ b → cond b Holds (Broken (length (trace_of M))) ≡ verdict_for (trace_of M)
    go true e = rw ((judged M).held e)
    go false e = nonempty (trace_of M) ((judged M).at_least_one e)

-- What is computed as expected is given so.
answered : (c : Case) → computed c ≡ expected c → Answered c
unfolding computed expected trace_in expected_list
answered c e = record {
  judged = λ j m lent h.
      let inside : ltb j.set (2 ^ rules_in c.text) ≡ true = map_agree _ _ c.judged (ap (λ x. x.sets) e) j m in
      let trace : trace_in c.text j.set ≡ j.trace = map_agree _ _ c.judged (ap (λ x. x.traces) e) j m in
      let r = judge_enough c.text model j.set lent (ltb-true j.set (2 ^ rules_in c.text) inside) (rw trace h) in
      record {
        says = r.says ∙ ap Given (verdict_trace (system_in c.text j.set) ∙ ap verdict_for trace);
        writes = r.writes ∙ ap (λ t. overwritten t lent) trace;
      };
  lists = λ which lent h. rw (lists which) at (list_enough c.text model which lent (rw (lists which) h));
  must = kind_given c.text model Must ∙ ap Given (ap (λ x. x.must) e);
}
  where
    model : text_outcome c.text ≡ Accepted
    model = ap (λ x. x.model) e

    lists : (which : WhichList) → list_in which c.text ≡ expected_list which c
    lists Cores = ap (λ x. x.cores) e
    lists Cuts = ap (λ x. x.cuts) e

-- The starred examples: for each case of the table the calls give what it says.
pub table_answered : (c : Case) → Memᴰ c table → Answered c
table_answered c m = answered c (map_agree computed expected table computes c m)
