-- What masks and tables that were filled from a text answer is what the model means: the verdicts, MUST, the tables of the cores and the cuts; and what is
-- read off these. From the laws of the filled tables (`semantics`) and of lists of judgements that agree (`sets`). Assumes nothing.
use Rattle.std.specs.Prelude.{ℕ, ◌≡◌, Bool, List}
use Rattle.std.proofs.Common.{◌∙◌}
use Rattle.std.proofs.Math.Path.{ap, ap₂}
use denote.Ref.{MutBor}
use Rattle.sets.specs.Cores.{is_core, is_cut}
use Rattle.sets.specs.Lists.{list_of, cores_of, cuts_of, must_of, common}
use Rattle.sets.specs.Kinds.{some_of}
use Rattle.sets.specs.Laws.Growth.{is_core_agree, is_cut_agree, cores_of_agree, list_of_agree}
use Rattle.sets.proofs.Laws.Kinds.{some_less_must, full_less_some}
use Rattle.systems.specs.declared.systems.Systems.{Systems}
use Rattle.systems.specs.ByTables.{judge_by}
use Rattle.semantics.specs.declared.model_text.ModelText.{ModelText}
use Rattle.semantics.specs.ByText.{described_by}
use Rattle.semantics.specs.Meaning.{judge}
use Rattle.semantics.specs.TablesOf.{Filled}
use Rattle.semantics.proofs.Laws.Filled.{rules_are, same_verdict}
use Rattle.sorting.specs.declared.kinds.Kinds.{Kinds}
use Rattle.sorting.specs.Kinds.{kinds_by, kinds_of}
use Rattle.marks.specs.Marks.{marked, table_by}
use Rattle.marks.specs.declared.table.MarkedSets.{MarkedSets}
use Rattle.marks.specs.Laws.Marks.{table_by_agree, table_by_marks}
use Rattle.finding.specs.Finding.{Found, TakesFound, AnswersByFound}

module _ {m : ModelText} {s : Systems} (f : Filled m s) where
  pub must_is : {S : ℕ} → S ≡ must_of s.tables.now.rules (judge_by s.masks.now s.tables.now) → S ≡ must_of m.model.rules (judge (described_by m))
  unfolding must_of
  must_is e =
      e ∙ ap (λ (R : ℕ). must_of R (judge_by s.masks.now s.tables.now)) (rules_are f)
      ∙ ap common (cores_of_agree m.model.rules (judge_by s.masks.now s.tables.now) (judge (described_by m)) (same_verdict f))

  -- the tables of the cores and of the cuts
  found_is : {cores cuts : MarkedSets} → Found s.tables.now.rules (judge_by s.masks.now s.tables.now) cores cuts → Found m.model.rules (judge (described_by m)) cores cuts
  found_is g = record {
    cores_rules = g.cores_rules ∙ rules_are f;
    cores_are =
        g.cores_are ∙ ap (λ (R : ℕ). table_by R (is_core (judge_by s.masks.now s.tables.now))) (rules_are f)
        ∙ table_by_agree m.model.rules _ _ (is_core_agree m.model.rules (judge_by s.masks.now s.tables.now) (judge (described_by m)) (same_verdict f));
    cuts_rules = g.cuts_rules ∙ rules_are f;
    cuts_are =
        g.cuts_are ∙ ap (λ (R : ℕ). table_by R (is_cut R (judge_by s.masks.now s.tables.now))) (rules_are f)
        ∙ table_by_agree m.model.rules _ _ (is_cut_agree m.model.rules (judge_by s.masks.now s.tables.now) (judge (described_by m)) (same_verdict f));
  }

  -- so a closure may be called by them, and what it may answer by them is what it may answer of the model
  pub callable_is : {pre : MarkedSets → MarkedSets → MutBor (List ℕ) → Type 0} {lent shown : List ℕ}
      → TakesFound pre m.model.rules (judge (described_by m)) lent → shown ≡ lent
      → TakesFound pre s.tables.now.rules (judge_by s.masks.now s.tables.now) shown
  callable_is a e = record { at = λ cores cuts bytes g same. a.at cores cuts bytes (found_is g) (same ∙ e) }

  pub answered_is : {A : Type 0} {post : MarkedSets → MarkedSets → MutBor (List ℕ) → A → MutBor (List ℕ) → Type 0} {lent shown left lent' : List ℕ} {r : A}
      → shown ≡ lent → left ≡ lent' → AnswersByFound post s.tables.now.rules (judge_by s.masks.now s.tables.now) shown r left
      → AnswersByFound post m.model.rules (judge (described_by m)) lent r lent'
  answered_is e g a = record {
    cores = a.cores;
    cuts = a.cuts;
    found = found_is a.found;
    shown = a.shown;
    shows = a.shows ∙ e;
    left = a.left;
    answered = a.answered;
    leaves = a.leaves ∙ g;
  }

kind : (must may irrelevant : ℕ) → Kinds
kind must may irrelevant = record { must = must; may = may; irrelevant = irrelevant }

table_lists : (R : ℕ) (p : ℕ → Bool) → list_of R (marked (table_by R p)) ≡ list_of R p
table_lists R p = list_of_agree R (marked (table_by R p)) p (table_by_marks R p)

-- what is read off the tables of the sets that h judges
module _ {R : ℕ} {h : ℕ → Bool} {cores cuts : MarkedSets} (f : Found R h cores cuts) where
  pub cores_listed : list_of cores.rules (marked cores.table.now) ≡ cores_of R h
  unfolding cores_of
  cores_listed = ap₂ (λ (k : ℕ) (l : List ℕ). list_of k (marked l)) f.cores_rules f.cores_are ∙ table_lists R (is_core h)

  pub cuts_listed : list_of cuts.rules (marked cuts.table.now) ≡ cuts_of R h
  unfolding cuts_of
  cuts_listed = ap₂ (λ (k : ℕ) (l : List ℕ). list_of k (marked l)) f.cuts_rules f.cuts_are ∙ table_lists R (is_cut R h)

  pub kinds_are : {k : Kinds} → k ≡ kinds_by cores.rules (list_of cores.rules (marked cores.table.now)) → k ≡ kinds_of R h
  unfolding kind kinds_by kinds_of must_of some_of
  kinds_are e =
      e ∙ ap₂ kinds_by f.cores_rules cores_listed
      ∙ ap₂ (kind (must_of R h)) (some_less_must R h) (full_less_some R h)
