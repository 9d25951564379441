-- `fill_block`: a turn fills four entries, and what is left is filled behind the loop. From the laws of lists that are filled from the front on and of four masks side by side.
use Rattle.std.specs.Prelude.{ℕ, ◌+◌, ◌-◌, ◌*◌, ◌/◌, ◌≤◌, ◌≡◌, List, length, get_or, take, drop, map}
use Rattle.std.proofs.Common.{arith, ◌∙◌, length-drop}
use Rattle.std.proofs.Math.Path.{ap, subst}
use Rattle.std.proofs.lemmas.List.{length-map, length-take}
use borrow.Rule.Slice.PartMut.{put_mid}
use Rattle.sets.specs.Bit.{has}
use Rattle.sets.specs.Gathered.{set_of}
use Rattle.sets.specs.Tabulated.{tabulate}
use Rattle.sets.specs.Laws.Tabulated.{same_entries}
use Rattle.rule_lines.specs.declared.names.RuleParts.{RuleParts}
use Rattle.semantics.specs.Places.{mask_by, word_at}
use Rattle.semantics.proofs.Laws.Places.{words_mask}
use Rattle.semantics.proofs.Filling.{FilledTo, none_filled, part_filled, all_filled}
use Rattle.semantics.proofs.Fours.{in_four, one_of_four, mask_in, mask_in_four}
use Rattle.semantics.proofs.masks.fill_block.Goals as goal

-- the entries from t up to e come back with masks that stand side by side
module _ (words row₀ row : List ℕ) (t e : ℕ) (h : FilledTo (mask_in words) row₀ row t) (l : t ≤ e) (m : e ≤ t + 4) (few : length words ≤ 16) where
  four_filled : e ≤ length row → (four : ℕ) (part : List ℕ) → four ≡ set_of 64 (in_four words t) → (n : ℕ) → part ≡ tabulate n (one_of_four four) → n ≡ e - t
      → FilledTo (mask_in words) row₀ (put_mid t (e - t) row part) e
  four_filled b four part is n said count =
      let long : e - t ≡ length (take (e - t) (drop t row)) = omega (arith, length-take (e - t) (drop t row), length-drop t row) in
      part_filled (mask_in words) row₀ row t h e part l b
      (said ∙ same_entries n (one_of_four four) (λ j. mask_in words (t + j)) (λ j d. mask_in_four words t four j few (omega arith) is)
      ∙ ap (λ k. tabulate k (λ j. mask_in words (t + j))) (count ∙ long))

-- the masks that the words of the rules give
module _ (text : List ℕ) (rules : List RuleParts) (s block : ℕ) (words : List ℕ) (e : words ≡ map (λ p. word_at text p.step s block) rules) where
  words_few : length rules ≤ 16 → length words ≤ 16
  words_few few = omega (arith, ap length e, length-map rules (λ p. word_at text p.step s block))

  masks_are : (n : ℕ) → n ≤ 64 → tabulate n (mask_in words) ≡ tabulate n (λ t. mask_by text rules s (64 * block + t))
  masks_are n h =
      same_entries n (mask_in words) (λ t. mask_by text rules s (64 * block + t))
      (λ t l.
      ap (λ (w : List ℕ). mask_in w t) e
      ∙ ap (λ (k : ℕ). set_of k (λ i. has (get_or (map (λ p. word_at text p.step s block) rules) i 0) t)) (length-map rules (λ p. word_at text p.step s block))
      ∙ words_mask text rules s block t (omega arith))

pub loop-k-init : goal.loop-k-init
loop-k-init c = none_filled _ _

pub loop-k-preserved : goal.loop-k-preserved
loop-k-preserved c =
    let few = words_few _ _ _ _ _ c.rule_words-words.ensures c.args.rules.few in
    let end : 4 * c.loop-k.k + 4 ≡ 4 * (c.loop-k.k + 1) = omega arith in
    subst (FilledTo _ _ _) end
    (four_filled _ _ _ _ _ c.loop-k.invariant (omega arith) (omega arith) few (omega (arith, c.loop-k.invariant.kept)) _ _ c.four_masks.ensures
    _ (c.copy_from_slice.ensures.after ∙ c.apart.ensures) (omega arith))

pub returns-then-left-gt0 : goal.returns-then-left-gt0
returns-then-left-gt0 c =
    let few = words_few _ _ _ _ _ c.rule_words-words.ensures c.args.rules.few in
    let fours : 4 * c.loop-k.k ≡ 4 * (length c.args.part.now / 4) = omega arith in
    let filled = subst (FilledTo _ _ _) fours c.loop-k.invariant in
    all_filled _ _ _ _
    (four_filled _ _ _ _ _ filled (omega arith) (omega arith) few (omega arith) _ _ c.four_masks-then-left-gt0.ensures
    _ c.fill_left.ensures (omega (arith, length-drop (4 * c.loop-k.k) c.loop-k.part)))
    (omega arith)
    ∙ masks_are _ _ _ _ _ c.rule_words-words.ensures _ c.requires

pub returns-else-left-gt0 : goal.returns-else-left-gt0
returns-else-left-gt0 c =
    all_filled _ _ _ _ c.loop-k.invariant (omega (arith, c.loop-k.invariant.kept))
    ∙ masks_are _ _ _ _ _ c.rule_words-words.ensures _ c.requires
