-- What stands at single places of the text is the model that the text tells: the rules, the states that meet `init`, the bad states and the masks; and the
-- bits that the words of the rules have at a place make the mask of that pair. From the laws of lists and of sets as numbers. Assumes nothing.
use Rattle.std.specs.Prelude.{ℕ, zero, suc, ◌+◌, ◌*◌, ◌/◌, ◌%◌, ◌^◌, ◌≤◌, ◌<◌, ◌≡◌, refl, Bool, true, not, ◌&&◌, cond, List, Some, None, ltb, length, get_or, take, drop, map}
use Rattle.std.specs.List.{list_all}
use Rattle.std.specs.Option.{is_none}
use Rattle.std.proofs.Common.{sym, ◌∙◌, arith, add-one, get_or-take, length-take-le}
use Rattle.std.proofs.Math.Path.{ap, ap₂, fun_ext}
use Rattle.std.proofs.lemmas.Bool.{false≢true}
use Rattle.std.proofs.lemmas.List.{take_all, get_or-map}
use Rattle.std.proofs.lemmas.List.Folds.{list_all_more}
use Rattle.sets.specs.Bit.{has, full}
use Rattle.sets.specs.Gathered.{set_of}
use Rattle.sets.specs.Laws.Gathered.{has_set_of, set_of_same, set_of_all}
use Rattle.sets.specs.Tabulated.{tabulate}
use Rattle.sets.specs.Laws.Tabulated.{length_tabulate, get_d_tabulate}
use Rattle.exprs.specs.Expr.{value}
use Rattle.rule_lines.specs.declared.names.RuleParts.{RuleParts}
use Rattle.rule_lines.specs.RuleLines.{StartPlace, no_parts}
use Rattle.models.specs.declared.model.Model.{Model}
use Rattle.models.specs.Written.{rule_at, property_in, start_at, rule_of, rule_in, described}
use Rattle.models.proofs.Laws.Written.{described_properties, described_property, described_count, described_rule}
use Rattle.semantics.specs.Meaning.{every, init_met, start_part_met, start_met, property_met, bad_of, step_met}
use Rattle.semantics.specs.TablesOf.{mask_of, start_mask_of, mask_row}
use Rattle.semantics.proofs.Laws.Meaning.{every_iff, every_same}
use Rattle.semantics.specs.Places.{meets, meets_all, mask_by, meets_start, start_mask_by, mask_row_by, word_at}

-- ---- the model that the text tells

-- What the first n entries of a list pass, every number below n passes of the entry at it.
all_every : {A : Type 0} (test : A → Bool) (l : List A) (d : A) (n : ℕ) → n ≤ length l → list_all test (take n l) ≡ every n (λ j. test (get_or l j d))
unfolding every
all_every test l d zero h = refl
all_every test l d (suc n) h =
    ap (λ k. list_all test (take k l)) (sym (add-one n)) ∙ list_all_more test l n d (omega arith)
    ∙ ap (λ b. b && test (get_or l n d)) (all_every test l d n (omega arith))

module _ (text : List ℕ) (m : Model) where
  -- A state meets `init` where it meets the expression there, and it is bad where it does not meet all properties.
  pub init_described : (s : ℕ) → meets text m.init s s ≡ init_met (described text m) s
  unfolding described meets init_met
  init_described s = refl

  pub bad_described : m.properties ≤ length m.props → (s : ℕ) → not (meets_all text (take m.properties m.props) s) ≡ bad_of (described text m) s
  unfolding meets_all meets bad_of property_met property_in
  bad_described room s =
      ap not
      (all_every (λ place. meets text place s s) m.props 0 m.properties room
      ∙ every_same m.properties _ _ (λ j h. ap (λ e. value e s s) (sym (described_property text m j h)))
      ∙ ap (λ (n : ℕ). every n (λ j. property_met (described text m) j s)) (sym (described_properties text m)))

  -- A state meets the start part of the rule whose parts stand at these places.
  start_part : (p : RuleParts) (s : ℕ) → meets_start text p s ≡ start_part_met (start_at text p.step p.start) s
  unfolding meets_start meets start_part_met start_at
  start_part p s = go p.start
    where
      go : (o : StartPlace) → elim o [ None ↦ true | Some bytes ↦ meets (drop p.step text) bytes s s ] ≡ start_part_met (start_at text p.step o) s
      go None = refl
      go (Some bytes) = refl

  -- The masks are those of the rules at their places: of any list that has as many entries as there are rules, each as the model has it.
  module _ (parts : List RuleParts) (count : length parts ≡ m.rules) (entry : (i : ℕ) → i < m.rules → get_or parts i no_parts ≡ get_or m.parts i no_parts) where
    rule_is : (i : ℕ) → i < m.rules → rule_at (described text m).rules i ≡ rule_of text (get_or parts i no_parts)
    unfolding rule_in
    rule_is i h = described_rule text m i h ∙ ap (rule_of text) (sym (entry i h))

    mask_described : (s t : ℕ) → mask_by text parts s t ≡ mask_of (described text m) s t
    unfolding mask_by mask_of meets step_met rule_of
    mask_described s t =
        ap (λ (n : ℕ). set_of n (λ i. meets text (get_or parts i no_parts).step s t)) count
        ∙ set_of_same m.rules _ (λ i. step_met (described text m) i s t) (λ i h. ap (λ r. value r.step s t) (sym (rule_is i h)))
        ∙ ap (λ (n : ℕ). set_of n (λ i. step_met (described text m) i s t)) (sym (described_count text m))

    start_mask_described : (s : ℕ) → start_mask_by text parts s ≡ start_mask_of (described text m) s
    unfolding start_mask_by start_mask_of start_met rule_of
    start_mask_described s =
        ap (λ (n : ℕ). set_of n (λ i. meets_start text (get_or parts i no_parts) s)) count
        ∙ set_of_same m.rules _ (λ i. start_met (described text m) i s) (λ i h. start_part (get_or parts i no_parts) s ∙ ap (λ r. start_part_met r.start s) (sym (rule_is i h)))
        ∙ ap (λ (n : ℕ). set_of n (λ i. start_met (described text m) i s)) (sym (described_count text m))

    rows_described : mask_row_by text parts (2 ^ m.vars) ≡ mask_row (described text m)
    unfolding mask_row_by mask_row described
    rows_described = fun_ext (λ s. fun_ext (λ t. ap₂ (cond (ltb s (2 ^ m.vars))) (mask_described s t) (start_mask_described t)))

  -- The first entries are such a list where there are enough of them.
  pub rows_taken : m.rules ≤ length m.parts → mask_row_by text (take m.rules m.parts) (2 ^ m.vars) ≡ mask_row (described text m)
  rows_taken room = rows_described (take m.rules m.parts) (length-take-le m.rules m.parts room) (λ i h. get_or-take m.rules m.parts i no_parts h)

  -- So is, however many there are, the list with `no_parts` in the place of each that is not there.
  abbrev its_parts : List RuleParts
  its_parts = tabulate m.rules (λ i. get_or m.parts i no_parts)

  module _ (s : ℕ) where
    pub mask_of_parts : (t : ℕ) → mask_by text its_parts s t ≡ mask_of (described text m) s t
    mask_of_parts t = mask_described its_parts (length_tabulate m.rules _) (get_d_tabulate m.rules (λ i. get_or m.parts i no_parts) no_parts) s t

    pub start_mask_of_parts : start_mask_by text its_parts s ≡ start_mask_of (described text m) s
    start_mask_of_parts = start_mask_described its_parts (length_tabulate m.rules _) (get_d_tabulate m.rules (λ i. get_or m.parts i no_parts) no_parts) s

  pub rows_of_parts : mask_row_by text its_parts (2 ^ m.vars) ≡ mask_row (described text m)
  rows_of_parts = rows_described its_parts (length_tabulate m.rules _) (get_d_tabulate m.rules (λ i. get_or m.parts i no_parts) no_parts)

-- ---- rules without start parts

-- Every state meets the start part of each.
pub all_met : (text : List ℕ) (rules : List RuleParts) → list_all (λ p. is_none p.start) rules ≡ true → (s : ℕ) → full (length rules) ≡ start_mask_by text rules s
unfolding start_mask_by meets_start
all_met text rules lacks s = set_of_all (length rules) ∙ set_of_same (length rules) (λ i. true) _ (λ i h. sym (met (get_or rules i no_parts) (each i h)))
  where
    each : (i : ℕ) → i < length rules → is_none (get_or rules i no_parts).start ≡ true
    each i h = (every_iff (length rules) (λ j. is_none (get_or rules j no_parts).start)).0
        (sym (all_every (λ p. is_none p.start) rules no_parts (length rules) (omega arith)) ∙ ap (list_all (λ p. is_none p.start)) (take_all (length rules) rules (omega arith)) ∙ lacks) i h

    go : (p : RuleParts) (o : StartPlace) → is_none o ≡ true → elim o [ None ↦ true | Some bytes ↦ meets (drop p.step text) bytes s s ] ≡ true
    go p None e = refl
    go p (Some bytes) e = absurd (false≢true e)

    met : (p : RuleParts) → is_none p.start ≡ true → meets_start text p s ≡ true
    met p e = go p p.start e

-- ---- the words at 64 next states

-- One bit of a word is the value at one next state.
pub bit_meets : (text : List ℕ) (place s t : ℕ) → has (word_at text place s (t / 64)) (t % 64) ≡ meets text place s t
unfolding word_at
bit_meets text place s t =
    let whole : 64 * (t / 64) + t % 64 ≡ t = omega arith in
    has_set_of 64 (λ u. meets text place s (64 * (t / 64) + u)) (t % 64) (omega arith) ∙ ap (meets text place s) whole

-- ---- the words of the rules

-- Bit t of each word.
pub words_mask : (text : List ℕ) (rules : List RuleParts) (s block t : ℕ) → t < 64
    → set_of (length rules) (λ i. has (get_or (map (λ p. word_at text p.step s block) rules) i 0) t) ≡ mask_by text rules s (64 * block + t)
unfolding mask_by word_at
words_mask text rules s block t h =
    set_of_same (length rules) _ _
    (λ i l.
    ap (λ (w : ℕ). has w t) (get_or-map (λ p. word_at text p.step s block) rules i no_parts 0 l)
    ∙ has_set_of 64 (λ t. meets text (get_or rules i no_parts).step s (64 * block + t)) t h)
