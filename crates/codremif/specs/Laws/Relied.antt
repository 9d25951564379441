-- Rules that nobody relies on: what the calls answer sorts the rules, the irrelevant ones can be left out, and the expression of a rule outside
-- MUST can be replaced.
-- From the lists of the rules that are kept, numbered anew (`sets`), what a changed model means (`semantics`), and what judging answers.
use Prim.Native.Nat.{ℕ, ◌^◌, ◌<◌}
use Rattle.std.specs.Prelude.{◌≡◌, ◌↔◌, false}
use Rattle.std.proofs.Math.Path.{sym, ap}
use Rattle.std.proofs.Common.{ap₂, ◌∙◌, subst, arith, pow_pos}
use Rattle.std.proofs.Math.Logic.Iff
use Rattle.std.proofs.Math.Bool.{Bool, true, true≢false}
use mathlib.Core.List.{List, map, map-map}
use Rattle.std.proofs.Math.Option.{Option}
use Rattle.std.specs.Int.Count.{ones}
use Rattle.std.proofs.Math.ListN.{length}
use Rattle.std.proofs.lemmas.List.{length-map}
use Rattle.std.proofs.Math.Pow.{ones_lt}
use Rattle.sets.specs.Bit.{has, full}
use Rattle.sets.specs.Demand3.{Lists, Among}
use Rattle.sets.specs.Lists.{cores_of, must_of}
use Rattle.sets.specs.Laws.Listed.{cores_of_lists, cuts_of_lists}
use Rattle.sets.specs.Laws.Cores.{false_if}
use Rattle.sets.specs.Kinds.{InSome, some_of, may_of, irrelevant_of}
use Rattle.sets.proofs.Laws.Kinds.{some_iff, some_below, full_less_some, has_may, irrelevant_iff, irrelevant_by_cuts, kinds_sorted, no_core_irrelevant, no_core_may}
use Rattle.sets.specs.Kept.{kept}
use Rattle.sets.specs.Renumbered.{spread, renumbered}
use Rattle.sets.specs.Laws.Kept.{map_kept, kept_kept, old_onto}
use Rattle.sets.proofs.Laws.Renumbered.{Reduced, relevant_reduced, none_irrelevant}
use Rattle.exprs.specs.Expr.{Expr}
use Rattle.lines.specs.Written.{Rule, LegalExpr, LegalStart}
use Rattle.refusals.specs.Answers.{Accepted, Given}
use Rattle.models.specs.Written.{Described, Legal, names_of, written_model, model_in}
use Rattle.models.proofs.Accepted.{told_back}
use Rattle.models.specs.Changed.{keeping, replacing}
use Rattle.models.proofs.Laws.Changed.{length_keeping, keeping_legal, length_replacing, replacing_legal}
use Rattle.semantics.specs.Meaning.{judge}
use Rattle.semantics.proofs.Laws.Changed.{judge_keeping, replacing_holds}
use Rattle.sorting.specs.declared.which.WhichList.{WhichList}
use Rattle.sorting.specs.declared.which.WhichList.TheVariants.{Cores, Cuts}
use Rattle.sorting.specs.Which.{listed, of_kind}
use Rattle.sorting.specs.declared.kinds.Kind.TheVariants.{Must, May}
use Rattle.calls.specs.declared.verdict.Verdict.TheVariants.{Holds}
use Rattle.calls.specs.Answers.{rules_in, judge_in, list_in, kind_in, text_outcome, judge_answer}
use Rattle.packing.specs.Packing.{accepted, parts_by, number_parts, set_parts, packed}
use Rattle.codremif.specs.Relied.{InOneOf, SortedRules, names_in, relevant_in, relevant_model, SameByName, Reducible, Replaceable, Relied}
use Rattle.calls.proofs.Laws.Answers.{kind_given}
use Rattle.codremif.specs.Laws.Written.{written_accepted, written_rules, written_judge, told_legal}
use Rattle.codremif.specs.Laws.Demand3.{monotone_in, by_call}

-- ---- the irrelevant rules

-- Only the rules of U are kept.
module _ (text : List ℕ) (model : text_outcome text ≡ Accepted) (U : ℕ) (small : U < 2 ^ rules_in text) (some : 0 < ones U) where
  abbrev less : List ℕ
  less = written_model (keeping U (model_in text))

  less_legal : Legal (keeping U (model_in text))
  unfolding rules_in
  less_legal = keeping_legal U (model_in text) small (told_legal text model) some

  less_rules : rules_in less ≡ ones U
  unfolding rules_in
  less_rules = written_rules (keeping U (model_in text)) less_legal ∙ length_keeping U (model_in text) small

  less_judge : judge_in less ≡ renumbered (rules_in text) U (judge_in text)
  unfolding rules_in judge_in
  less_judge k S = (written_judge (keeping U (model_in text)) less_legal S ∙ judge_keeping U (model_in text) S) k

  less_names : (S : ℕ) → names_in less S ≡ names_in text (spread (rules_in text) U S)
  unfolding names_in names_of rules_in keeping
  less_names S =
      let rules : List Rule = (model_in text).rules in
      let names : List (List ℕ) = map (λ r. r.name) rules in
      ap (λ M. kept S (map (λ r. r.name) M.rules)) (told_back (keeping U (model_in text)) less_legal)
      ∙ ap (kept S) (sym (map_kept (λ r. r.name) U rules)) ∙ kept_kept U S names
      ∙ ap (λ n. kept (spread n U S) names) (length-map rules (λ r. r.name))

  -- What is the same by the old numbers is the same by name.
  less_list : (which : WhichList)
      → map (spread (rules_in text) U) (listed which (ones U) (renumbered (rules_in text) U (judge_in text))) ≡ listed which (rules_in text) (judge_in text)
      → map (names_in less) (list_in which less) ≡ map (names_in text) (list_in which text)
  unfolding list_in
  less_list which e =
      ap (λ f. map f (listed which (rules_in less) (judge_in less))) (λ k S. less_names S k)
      ∙ sym (map-map (names_in text) (spread (rules_in text) U) (listed which (rules_in less) (judge_in less)))
      ∙ ap (map (names_in text)) (ap₂ (λ R h. map (spread (rules_in text) U) (listed which R h)) less_rules less_judge ∙ e)

  less_same : Reduced (rules_in text) U (judge_in text) → SameByName less text
  unfolding listed kind_in of_kind
  less_same r = record {
    cores = less_list Cores r.cores;
    cuts = less_list Cuts r.cuts;
    must = less_names (kind_in Must less)
        ∙ ap (names_in text) (ap₂ (λ R h. spread (rules_in text) U (must_of R h)) less_rules less_judge ∙ r.must);
    may = less_names (kind_in May less)
        ∙ ap (names_in text) (ap₂ (λ R h. spread (rules_in text) U (may_of R h)) less_rules less_judge ∙ r.may);
  }

-- The rules that are left without the irrelevant ones are those in some core.
pub relevant_some : (text : List ℕ) → relevant_in text ≡ some_of (rules_in text) (judge_in text)
unfolding relevant_in kind_in of_kind
relevant_some text =
    let R : ℕ = rules_in text in
    omega (arith, full_less_some R (judge_in text), some_below R (judge_in text), pow_pos R)

-- A rule is in a set of the list exactly when it is in some core, or in some cut.
in_listed : {R : ℕ} {P : ℕ → Type 0} {l : List ℕ} → Lists l (Among R P) → (i : ℕ) → InSome R P i ↔ InOneOf l i
in_listed lists i = (
  λ p. (p.0, lists.each p.0 (record { rules = p.1; itself = p.2 }), p.3),
  λ p. let k = lists.only p.0 p.1 in (p.0, k.rules, k.itself, p.2),
)

reducible : (text : List ℕ) → text_outcome text ≡ Accepted → (i : ℕ) → InOneOf (list_in Cores text) i → Reducible text
unfolding relevant_model list_in listed kind_in of_kind
reducible text model i m =
    let R : ℕ = rules_in text in
    let h : ℕ → Bool = judge_in text in
    let U : ℕ = relevant_in text in
    let is : U ≡ some_of R h = relevant_some text in
    let small : U < 2 ^ R = rw is (some_below R h) in
    let left : (i : ℕ) → (has U i ≡ true) ↔ InOneOf (cores_of R h) i = rw is (λ i. Iff.trans (some_iff R h i) (in_listed (cores_of_lists R h) i)) in
    let some : 0 < ones U = omega (arith, (old_onto R U i small ((left i).1 m)).1) in
    let legal : Legal (keeping U (model_in text)) = less_legal text model U small some in
    record {
      left = left;
      legal = legal;
      accepted = written_accepted (keeping U (model_in text)) legal;
      same = less_same text model U small some (subst (λ W. Reduced R W h) (sym is) (relevant_reduced R h (monotone_in text)));
      none_left =
          ap₂ irrelevant_of (less_rules text model U small some) (less_judge text model U small some)
          ∙ subst (λ W. irrelevant_of (ones W) (renumbered R W h) ≡ 0) (sym is) (none_irrelevant R h);
    }

-- ---- a rule outside MUST

module _ (text : List ℕ) (model : text_outcome text ≡ Accepted) where
  replaceable : (lent : List ℕ) → judge_answer text (full (rules_in text)) lent ≡ Given Holds → (i : ℕ) → i < rules_in text → has (kind_in Must text) i ≡ false
      → (step : Expr) → LegalExpr (model_in text).vars true step → (start : Option Expr) → LegalStart (model_in text).vars start → Replaceable text i step start
  unfolding rules_in kind_in of_kind judge_in
  replaceable lent all i h n step le start ls =
      let M : Described = model_in text in
      let M' : Described = replacing i step start M in
      let R : ℕ = length M.rules in
      let legal : Legal M' = replacing_legal i step start M h (told_legal text model) le ls in
      let count : rules_in (written_model M') ≡ R = written_rules M' legal ∙ length_replacing i step start M in
      let holds : judge M' (full R) ≡ true = replacing_holds i step start M h ((by_call text model (full R) (ones_lt R) lent).1 all) n in
      let accepted : text_outcome (written_model M') ≡ Accepted = written_accepted M' legal in
      record {
        legal = legal;
        accepted = accepted;
        holds = λ lent'.
            (by_call (written_model M') accepted (full (rules_in (written_model M'))) (ones_lt (rules_in (written_model M'))) lent').0
            (rw count (written_judge M' legal (full R) ∙ holds));
      }

-- ---- all of it

module _ (text : List ℕ) (model : text_outcome text ≡ Accepted) where
  sorted_rules : SortedRules text
  unfolding kind_in of_kind list_in listed set_parts parts_by number_parts packed accepted
  sorted_rules =
      let R : ℕ = rules_in text in
      let h : ℕ → Bool = judge_in text in
      let cores = in_listed (cores_of_lists R h) in
      let cuts = in_listed (cuts_of_lists R h) in
      record {
        given = kind_given text model;
        packed_set = λ kind. ap (λ a. packed (set_parts a)) (kind_given text model kind) ∙ omega arith;
        sorted = kinds_sorted R h;
        may = λ i. (
          λ e. let p = (has_may R h i).0 e in ((cores i).0 ((some_iff R h i).0 p.0), false_if (has (must_of R h) i) p.1),
          λ p. (has_may R h i).1 ((some_iff R h i).1 ((cores i).1 p.0), λ t. true≢false (sym t ∙ p.1)),
        );
        in_no_core = λ i l. (
          λ e m. let c = (cores i).1 m in ((irrelevant_iff R h i).0 e).1 c.0 c.1 c.2 c.3,
          λ n. (irrelevant_iff R h i).1 (l, λ C b c m. n ((cores i).0 (C, b, c, m))),
        );
        in_no_cut = λ i l. (
          λ e m. let c = (cuts i).1 m in ((irrelevant_by_cuts R h (monotone_in text) i).0 e).1 c.0 c.1 c.2 c.3,
          λ n. (irrelevant_by_cuts R h (monotone_in text) i).1 (l, λ S b s m. n ((cuts i).0 (S, b, s, m))),
        );
        no_core = no_core_irrelevant R h;
        no_core_no_may = no_core_may R h;
      }

  pub relied : Relied text
  relied = record { kinds = sorted_rules; reducible = reducible text model; replaceable = replaceable text model }
