-- Putting the names of a set's rules: that of the first, and then each other behind a comma; what is known when some of the rules are left.
-- From what an iterator over a set has left, and from the names that a text's model tells. Assumes nothing.
use Rattle.std.specs.Prelude.{ℕ, zero, suc, ◌+◌, ◌-◌, ◌^◌, ◌<◌, ◌≡◌, refl, false, List, [], ◌∷◌, map, get_or}
use Rattle.std.specs.List.{All}
use Rattle.std.proofs.Common.{sym, ap, ◌∙◌, arith, add-suc, add-zero, append-nil}
use Rattle.std.proofs.lemmas.List.Elements.{All-head, All-rest, All-same, All-from_get_or}
use mathlib.Core.List.{flat_map, ◌++◌}
use Rattle.sets.specs.Bit.{has}
use Rattle.sets.specs.Lists.{select}
use Rattle.sets.specs.Laws.Bit.{has_below}
use Rattle.sets.specs.Laws.Cores.{false_if}
use Rattle.sets.specs.Laws.Listed.{at_place, mem_select}
use Rattle.lines.specs.Bytes.{bytes}
use Rattle.rule_lines.specs.RuleLines.{no_parts, name_of}
use Rattle.models.specs.declared.model.Model.{Model}
use Rattle.models.specs.Written.{Described, model_in, rule_of, rule_in, rule_at}
use Rattle.models.proofs.Laws.Written.{described_rule}
use Rattle.calls.specs.Answers.{rules_in}
use Rattle.calls.specs.AsRead.{IsRead}
use Rattle.calls.proofs.Laws.Answers.{read_model_lem, rules_le, rules_read_lem}
use Rattle.pages.specs.Page.{Page, put_byte, put}
use Rattle.pages.specs.Laws.Page.{put_append}
use Rattle.pages.specs.Laws.Putting.{put_as, both_put}
use Rattle.sections.specs.declared.rules.Rules.{Rules}
use Rattle.sections.specs.Rules.{rules_left}
use Rattle.sections.specs.Sections.{separated, name_in, set_text}
use Rattle.sections.specs.Laws.Sections.{set_text_lem}

-- The name of a rule of the text's model is found at its place.
pub name_is : (text : List ℕ) (m : Model) → IsRead text m → (i : ℕ) → i < m.rules → name_of text (get_or m.parts i no_parts) ≡ name_in (model_in text) i
unfolding name_in rule_in rule_of
name_is text m r i below =
    sym (ap (λ r. r.name) (described_rule text m i below))
    ∙ ap (λ (D : Described). (rule_at D.rules i).name) (read_model_lem r)

-- ---- the rules of a set of the text's model

-- A set of R rules has none from R on.
none_past : (R k S : ℕ) → S < 2 ^ R → select (has S) (R + k) ≡ select (has S) R
unfolding select
none_past R zero S h = rw (add-zero R) refl
none_past R (suc k) S h =
    let absent : has S (R + k) ≡ false = false_if (has S (R + k)) (λ e. omega (arith, has_below R S (R + k) h e)) in
    rw (add-suc R k, absent) (append-nil (select (has S) (R + k)) ∙ none_past R k S h)

module _ (text : List ℕ) (m : Model) (r : IsRead text m) (s : Rules) (below : s.0.0 < 2 ^ m.rules) where
  rules_are : rules_left s ≡ select (has s.0.0) m.rules
  unfolding rules_left
  rules_are =
      let places : m.rules + (16 - m.rules) ≡ 16 = omega (arith, rules_le r) in
      ap (select (has s.0.0)) (sym places) ∙ none_past m.rules (16 - m.rules) s.0.0 below

  -- Each is a rule of the model.
  pub all_rules : All (λ i. i < m.rules) (rules_left s)
  all_rules =
      All-same (λ i. i < m.rules) _ _ rules_are
      (All-from_get_or (λ i. i < m.rules) _ 0 (λ i l. ((mem_select (has s.0.0) m.rules _).0 (at_place (select (has s.0.0) m.rules) i l)).0))

  -- The set is told by their names.
  pub told_by_names : set_text (model_in text) s.0.0 ≡ separated (map (name_in (model_in text)) (rules_left s))
  unfolding rules_in
  told_by_names =
      set_text_lem (model_in text) s.0.0
      ∙ ap (λ (R : ℕ). separated (map (name_in (model_in text)) (select (has s.0.0) R))) (sym (rules_read_lem r))
      ∙ ap (λ l. separated (map (name_in (model_in text)) l)) (sym rules_are)

-- ---- the names, put

-- the names of rules, each behind a comma
unfoldable pub others : Described → List ℕ → List ℕ
unfolding flat_map
others M rules = flat_map (λ n. bytes "," ++ n) (map (name_in M) rules)

-- Each of the rules that are left is below R, and once their names are put as well, the page p is what it becomes in the end.
pub record Naming (M : Described) (R : ℕ) (rules : List ℕ) (p₀ p : Page) (left : List ℕ) : Type 0 where
  pub known : All (λ i. i < R) left
  pub rest : put (others M left) p ≡ put (others M rules) p₀

module _ (M : Described) (R : ℕ) (rules : List ℕ) (p₀ p : Page) (left : List ℕ) (w : Naming M R rules p₀ p left) where
  pub next_named : (rule : ℕ) (after : List ℕ) → left ≡ rule ∷ after
      → (q s : Page) → q ≡ put_byte 44 p → s ≡ put (name_in M rule) q → Naming M R rules p₀ s after
  unfolding others put flat_map
  next_named rule after e q s comma named =
      record {
        known = All-rest (λ i. i < R) rule after left e w.known;
        rest =
            ap (put (others M after)) (named ∙ ap (put (name_in M rule)) comma)
            ∙ sym (put_append (name_in M rule) (others M after) (put_byte 44 p))
            ∙ ap (λ l. put (others M l) p) (sym e)
            ∙ w.rest;
      }

  pub all_named : left ≡ [] → p ≡ put (others M rules) p₀
  unfolding others put flat_map
  all_named e = ap (λ l. put (others M l) p) (sym e) ∙ w.rest

-- ---- a set of the text's model, put

module _ (text : List ℕ) (m : Model) (r : IsRead text m) (s : Rules) (below : s.0.0 < 2 ^ m.rules) where
  pub no_rule_put : rules_left s ≡ [] → (p q : Page) → q ≡ put_byte 45 p → q ≡ put (set_text (model_in text) s.0.0) p
  unfolding separated put
  no_rule_put none p q e =
      e ∙ ap (λ l. put l p) (sym (told_by_names text m r s below ∙ ap (λ l. separated (map (name_in (model_in text)) l)) none))

  -- its first rule, and those that are left then
  module _ (first : ℕ) (left : List ℕ) (some : rules_left s ≡ first ∷ left) where
    pub first_rule : first < m.rules
    first_rule = All-head (λ i. i < m.rules) first left (rw some at (all_rules text m r s below))

    pub started : (p : Page) → Naming (model_in text) m.rules left p p left
    started p = record { known = All-rest (λ i. i < m.rules) first left _ some (all_rules text m r s below); rest = refl }

    pub rules_put : (p q t : Page) → q ≡ put (name_in (model_in text) first) p → t ≡ put (others (model_in text) left) q
        → t ≡ put (set_text (model_in text) s.0.0) p
    unfolding separated others flat_map
    rules_put p q t e f =
        put_as _ _ p t (both_put _ _ p q t e f)
        (sym (told_by_names text m r s below ∙ ap (λ l. separated (map (name_in (model_in text)) l)) some))
