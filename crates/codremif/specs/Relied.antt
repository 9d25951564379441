-- What is to hold of the kinds of rules of an accepted text, and of the rules that nobody relies on: a named part for each sentence.
-- From document 02, "Rules nobody relies on". The theorem is in `Demands`. Assumes nothing: these are definitions.
use Rattle.std.specs.Prelude.{ℕ, ◌-◌, ◌*◌, ◌<◌, ◌≡◌, ◌↔◌, true, false, List, [], map}
use Rattle.std.proofs.Math.Option.{Option}
use Rattle.sets.specs.Bit.{has, full}
use Rattle.sets.specs.Demand3.{◌∈◌}
use Rattle.sets.specs.Kinds.{Sorted}
use Rattle.exprs.specs.Expr.{Expr}
use Rattle.lines.specs.Written.{LegalExpr, LegalStart}
use Rattle.refusals.specs.Answers.{Accepted, Given}
use Rattle.models.specs.Written.{Described, Legal, names_of, written_model, model_in}
use Rattle.models.specs.Changed.{keeping, replacing}
use Rattle.sorting.specs.declared.which.WhichList.TheVariants.{Cores, Cuts}
use Rattle.sorting.specs.declared.kinds.Kind.{Kind}
use Rattle.sorting.specs.declared.kinds.Kind.TheVariants.{Must, May, Irrelevant}
use Rattle.calls.specs.declared.verdict.Verdict.TheVariants.{Holds}
use Rattle.calls.specs.Answers.{rules_in, list_in, kind_in, text_outcome, judge_answer, kind_answer}
use Rattle.packing.specs.Packing.{set_parts, packed}

-- ---- the kinds of rules

-- Rule i is in a set of the list.
abbrev pub InOneOf : List ℕ → ℕ → Type 0
InOneOf sets i = (S : ℕ) × (S ∈ sets) × (has S i ≡ true)

-- What the calls for MUST, MAY and the irrelevant rules answer.
pub record SortedRules (text : List ℕ) : Type 0 where
  -- Each call answers the set of its rules, also as a 64-bit number.
  pub given : (kind : Kind) → kind_answer kind text ≡ Given (kind_in kind text)
  pub packed_set : (kind : Kind) → packed (set_parts (kind_answer kind text)) ≡ 65536 * kind_in kind text
  -- Each rule is in exactly one of MUST, MAY and irrelevant.
  pub sorted : Sorted (rules_in text) (kind_in Must text) (kind_in May text) (kind_in Irrelevant text)
  -- MAY has the rules that are in some core but not in MUST.
  pub may : (i : ℕ) → (has (kind_in May text) i ≡ true) ↔ (InOneOf (list_in Cores text) i × (has (kind_in Must text) i ≡ false))
  -- A rule is irrelevant exactly when it is in no core, and exactly when it is in no cut.
  pub in_no_core : (i : ℕ) → i < rules_in text → (has (kind_in Irrelevant text) i ≡ true) ↔ (¬ InOneOf (list_in Cores text) i)
  pub in_no_cut : (i : ℕ) → i < rules_in text → (has (kind_in Irrelevant text) i ≡ true) ↔ (¬ InOneOf (list_in Cuts text) i)
  -- With no core, every rule is irrelevant, and none is in MAY.
  pub no_core : list_in Cores text ≡ [] → kind_in Irrelevant text ≡ full (rules_in text)
  pub no_core_no_may : list_in Cores text ≡ [] → kind_in May text ≡ 0

-- ---- the irrelevant rules

-- The names of the rules in a set, in the order of the text.
unfoldable pub names_in : List ℕ → ℕ → List (List ℕ)
unfolding model_in names_of
names_in text S = names_of (model_in text) S

-- All rules of a text but the irrelevant ones.
unfoldable pub relevant_in : List ℕ → ℕ
relevant_in text = full (rules_in text) - kind_in Irrelevant text

-- The model of a text without its irrelevant rules: the others in their order and unchanged.
unfoldable pub relevant_model : List ℕ → Described
relevant_model text = keeping (relevant_in text) (model_in text)

-- Two texts have the same cores by name, the same cuts, and the same MUST and MAY: their lists, read as lists of names, are the same in the same
-- order.
pub record SameByName (text first : List ℕ) : Type 0 where
  pub cores : map (names_in text) (list_in Cores text) ≡ map (names_in first) (list_in Cores first)
  pub cuts : map (names_in text) (list_in Cuts text) ≡ map (names_in first) (list_in Cuts first)
  pub must : names_in text (kind_in Must text) ≡ names_in first (kind_in Must first)
  pub may : names_in text (kind_in May text) ≡ names_in first (kind_in May first)

-- The irrelevant rules can be left out.
pub record Reducible (text : List ℕ) : Type 0 where
  -- The rules that are left are exactly those in some core.
  pub left : (i : ℕ) → (has (relevant_in text) i ≡ true) ↔ InOneOf (list_in Cores text) i
  -- The model without the irrelevant rules is legal.
  pub legal : Legal (relevant_model text)
  -- Its written form is accepted.
  pub accepted : text_outcome (written_model (relevant_model text)) ≡ Accepted
  -- Its core list, read as lists of names, is the first model's, in the same order; so are its cut list, its MUST and its MAY.
  pub same : SameByName (written_model (relevant_model text)) text
  -- No rule of it is irrelevant.
  pub none_left : kind_in Irrelevant (written_model (relevant_model text)) ≡ 0

-- ---- a rule outside MUST

-- The step part and the start part of rule i can be replaced by these.
pub record Replaceable (text : List ℕ) (i : ℕ) (step : Expr) (start : Option Expr) : Type 0 where
  -- The model with that rule's parts replaced is legal.
  pub legal : Legal (replacing i step start (model_in text))
  -- Its written form is accepted.
  pub accepted : text_outcome (written_model (replacing i step start (model_in text))) ≡ Accepted
  -- Judging all rules of its written form answers that they hold, whatever bytes are lent.
  pub holds : (lent : List ℕ) → let text' = written_model (replacing i step start (model_in text)) in judge_answer text' (full (rules_in text')) lent ≡ Given Holds

-- ---- all of it

pub record Relied (text : List ℕ) : Type 0 where
  pub kinds : SortedRules text
  -- "Where some rule is in a core, leaving out every irrelevant rule gives a model with the same cores by name."
  pub reducible : (i : ℕ) → InOneOf (list_in Cores text) i → Reducible text
  -- "If the property holds, replacing the expression of one rule outside MUST by any legal one leaves it holding": the step part, the start part, or both; a
  -- start part may be added or left out.
  pub replaceable : (lent : List ℕ) → judge_answer text (full (rules_in text)) lent ≡ Given Holds → (i : ℕ) → i < rules_in text → has (kind_in Must text) i ≡ false
      → (step : Expr) → LegalExpr (model_in text).vars true step → (start : Option Expr) → LegalStart (model_in text).vars start → Replaceable text i step start
