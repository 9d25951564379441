-- The starred examples of document 01, "Examples at the edges", as one table of model texts with what the calls give for each. The theorem is in
-- `Demands`: it is computed from the texts as they are printed here. Assumes nothing: these are definitions.
use Rattle.std.specs.Prelude.{ℕ, ◌*◌, ◌≤◌, ◌≡◌, length}
use mathlib.Core.List.{List, [], ◌∷◌, Memᴰ}
use Rattle.sets.specs.Lists.{bytes_of}
use Rattle.lines.specs.Bytes.{ended_lines}
use Rattle.sorting.specs.declared.which.WhichList.{WhichList}
use Rattle.sorting.specs.declared.which.WhichList.TheVariants.{Cores, Cuts}
use Rattle.calls.specs.declared.verdict.Verdict.{Verdict}
use Rattle.refusals.specs.Answers.{Given}
use Rattle.calls.specs.declared.verdict.Verdict.TheVariants.{Holds, Broken}
use Rattle.sorting.specs.declared.kinds.Kind.TheVariants.{Must}
use Rattle.calls.specs.Answers.{Gives, judge_answer, judge_bytes, list_answer, list_bytes, kind_answer}

-- ---- the form of a case

-- A set and its trace, which has no state if the set holds.
pub record Judging : Type 0 where
  pub set : ℕ
  pub trace : List ℕ

-- A model text, some of its sets with their traces, its core list, its cut list and MUST.
pub record Case : Type 0 where
  pub text : List ℕ
  pub judged : List Judging
  pub cores : List ℕ
  pub cuts : List ℕ
  pub must : ℕ

unfoldable pub broken : ℕ → List ℕ → Judging
broken S trace = record { set = S; trace = trace }

unfoldable pub held : ℕ → Judging
held S = record { set = S; trace = [] }

-- ---- the table

-- Where document 01 leaves a part of a case open, the comment says so.
unfoldable pub table : List Case
unfolding broken held ended_lines
table =
    -- Tremor. (MUST is from its report.)
    record {
      text = ended_lines ("vars=3" ∷ "rules=3" ∷ "init=!c" ∷ "prop=>c&ab" ∷ "rule=ra:>CA" ∷ "rule=rb:>CB" ∷ "rule=vote:>C&AB" ∷ []);
      judged = broken 0 (0 ∷ 4 ∷ []) ∷ broken 1 (0 ∷ 5 ∷ []) ∷ broken 2 (0 ∷ 6 ∷ []) ∷ held 3 ∷ held 4 ∷ [];
      cores = 4 ∷ 3 ∷ [];
      cuts = 5 ∷ 6 ∷ [];
      must = 0;
    }
    -- Tremor with `ra` as its only rule.
    ∷ record {
      text = ended_lines ("vars=3" ∷ "rules=1" ∷ "init=!c" ∷ "prop=>c&ab" ∷ "rule=ra:>CA" ∷ []);
      judged = broken 1 (0 ∷ 5 ∷ []) ∷ [];
      cores = [];
      cuts = 0 ∷ [];
      must = 0;
    }
    -- Every state is a start state and meets `prop`. (The name `r` here and below, and MUST, are open.)
    ∷ record {
      text = ended_lines ("vars=1" ∷ "rules=1" ∷ "init=1" ∷ "prop=1" ∷ "rule=r:1" ∷ []);
      judged = [];
      cores = 0 ∷ [];
      cuts = [];
      must = 0;
    }
    -- There is no start state. (MUST is open.)
    ∷ record {
      text = ended_lines ("vars=1" ∷ "rules=1" ∷ "init=0" ∷ "prop=0" ∷ "rule=r:1" ∷ []);
      judged = [];
      cores = 0 ∷ [];
      cuts = [];
      must = 0;
    }
    -- A start state breaks `prop`. (The rule is open: `1`. So are the judged sets, both here, and the lists and MUST.)
    ∷ record {
      text = ended_lines ("vars=1" ∷ "rules=1" ∷ "init=1" ∷ "prop=a" ∷ "rule=r:1" ∷ []);
      judged = broken 0 (0 ∷ []) ∷ broken 1 (0 ∷ []) ∷ [];
      cores = [];
      cuts = 0 ∷ [];
      must = 0;
    }
    -- One rule that suffices.
    ∷ record {
      text = ended_lines ("vars=1" ∷ "rules=1" ∷ "init=!a" ∷ "prop=!a" ∷ "rule=r:=Aa" ∷ []);
      judged = [];
      cores = 1 ∷ [];
      cuts = 1 ∷ [];
      must = 1;
    }
    -- The same rule twice under two names.
    ∷ record {
      text = ended_lines ("vars=1" ∷ "rules=2" ∷ "init=!a" ∷ "prop=!a" ∷ "rule=r:=Aa" ∷ "rule=s:=Aa" ∷ []);
      judged = [];
      cores = 1 ∷ 2 ∷ [];
      cuts = 3 ∷ [];
      must = 0;
    }
    -- Instead the rule `0`, which no pair meets. (The cuts and MUST are open.)
    ∷ record {
      text = ended_lines ("vars=1" ∷ "rules=1" ∷ "init=!a" ∷ "prop=!a" ∷ "rule=r:0" ∷ []);
      judged = [];
      cores = 1 ∷ [];
      cuts = 1 ∷ [];
      must = 1;
    }
    -- Two rules that suffice together only: one step can leave the property, but not from a reached state.
    ∷ record {
      text = ended_lines ("vars=2" ∷ "rules=2" ∷ "init=&!a!b" ∷ "prop=!b" ∷ "rule=r:=Aa" ∷ "rule=s:>Ba" ∷ []);
      judged = broken 2 (0 ∷ 1 ∷ 2 ∷ []) ∷ broken 1 (0 ∷ 2 ∷ []) ∷ [];
      cores = 3 ∷ [];
      cuts = 1 ∷ 2 ∷ [];
      must = 3;
    }
    ∷ []

-- ---- what the theorem says of a case

-- The verdict that goes with a trace.
unfoldable pub verdict_for : List ℕ → Verdict
verdict_for [] = Holds
verdict_for (s ∷ l) = Broken (length (s ∷ l))

-- The list that a case says.
unfoldable pub expected_list : WhichList → Case → List ℕ
expected_list Cores c = c.cores
expected_list Cuts c = c.cuts

-- What the calls give for a case, where enough bytes are lent and whatever they held before.
pub record Answered (c : Case) : Type 0 where
  pub judged : (j : Judging) → Memᴰ j c.judged → (lent : List ℕ) → length j.trace ≤ length lent
      → Gives (verdict_for j.trace) j.trace lent (judge_answer c.text j.set lent) (judge_bytes c.text j.set lent)
  pub lists : (which : WhichList) (lent : List ℕ) → 2 * length (expected_list which c) ≤ length lent
      → Gives (length (expected_list which c)) (bytes_of (expected_list which c)) lent (list_answer which c.text lent) (list_bytes which c.text lent)
  pub must : kind_answer Must c.text ≡ Given c.must
