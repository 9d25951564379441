-- `rule_words`: each turn adds one word. From the laws of lists.
use Rattle.std.proofs.Common.{arith, ap₂, sym, ◌∙◌, ◌++◌, ◌∷◌, []}
use Rattle.std.specs.Prelude.{ℕ, List, ◌≡◌, ◌<◌, ◌+◌, length, get_or, take, map, set}
use Rattle.std.proofs.lemmas.List.{take_more_set, map_more, length-set}
use Rattle.rule_lines.specs.declared.names.RuleParts.{RuleParts}
use Rattle.semantics.proofs.masks.rule_words.Goals as goal

one_word : (f : RuleParts → ℕ) (rules : List RuleParts) (words : List ℕ) (i w : ℕ) (d : RuleParts) → i < length words → i < length rules → w ≡ f (get_or rules i d)
    → take i words ≡ map f (take i rules) → take (i + 1) (set words i w) ≡ map f (take (i + 1) rules)
one_word f rules words i w d a b e h =
    take_more_set words i w a ∙ ap₂ (λ (before : List ℕ) (word : ℕ). before ++ word ∷ []) h e ∙ sym (map_more f rules i d b)

pub loop-i-preserved : goal.loop-i-preserved
loop-i-preserved c =
    let l = c.loop-i in
    (simp length-set (omega arith), one_word _ c.args.rules.parts.now l.words l.i _ _ (omega arith) c.loop-i-test.true c.word_of.ensures l.invariant.1)
