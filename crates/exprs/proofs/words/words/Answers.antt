-- `exprs::words::words` meets its contract: the tree, folded with the words of its leaves and operators, is worth its values at the 64 next
-- states. By induction on the tree. Assumes nothing.
use Prim.Native.Nat.{ℕ, ◌+◌, ◌*◌}
use mathlib.Core.Path.{◌≡◌, refl, ap, ap₂, ◌∙◌}
use mathlib.Core.Bool.{Bool, not}
use Rattle.std.specs.Prelude.{Some}
use Rattle.std.proofs.Math.Option.{Option, none, some}
use Rattle.sets.specs.Gathered.{set_of}
use Rattle.sets.specs.Laws.Gathered.{has_set_of, set_of_same}
use Rattle.exprs.specs.declared.token.Token.{Token}
use Rattle.exprs.specs.declared.token.Token.TheVariants.{And, Or, Implies, Alike}
use Rattle.exprs.specs.Expr.{Expr, constant, bitNow, bitNext, negation, conjunction, disjunction, implication, equivalence, value, size}
use Rattle.exprs.specs.Reading.{read_expr}
use Rattle.exprs.specs.Folded.{folded, worth_of}
use Rattle.exprs.specs.Answers.{words_in, words_of, combined, negation_word, binary_word, leaf_word}
use Rattle.exprs.proofs.words.words.Goals as goal

-- an operand whose word is known, bit by bit
negated : (p : ℕ → Bool) {x : ℕ} → x ≡ set_of 64 p → negation_word x ≡ set_of 64 (λ i. not (p i))
negated p d = ap negation_word d ∙ set_of_same 64 _ _ (λ i l. ap not (has_set_of 64 p i l))

-- two of them
joined : (t : Token) (p q : ℕ → Bool) {x y : ℕ} → x ≡ set_of 64 p → y ≡ set_of 64 q → binary_word t x y ≡ set_of 64 (λ i. combined t (p i) (q i))
joined t p q d e = ap₂ (binary_word t) d e ∙ set_of_same 64 _ _ (λ i l. ap₂ (combined t) (has_set_of 64 p i l) (has_set_of 64 q i l))

module _ (now block : ℕ) where
  word : Expr → ℕ → Bool
  word e t = value e now (64 * block + t)

  folded_word : (e : Expr) → folded (leaf_word now block) negation_word binary_word e ≡ set_of 64 (word e)
  unfolding folded word value
  folded_word (constant v) = refl
  folded_word (bitNow i) = refl
  folded_word (bitNext i) = refl
  folded_word (negation e) = negated (word e) (folded_word e)
  folded_word (conjunction d e) = joined And (word d) (word e) (folded_word d) (folded_word e)
  folded_word (disjunction d e) = joined Or (word d) (word e) (folded_word d) (folded_word e)
  folded_word (implication d e) = joined Implies (word d) (word e) (folded_word d) (folded_word e)
  folded_word (equivalence d e) = joined Alike (word d) (word e) (folded_word d) (folded_word e)

  answered : (o : Option Expr) → worth_of (leaf_word now block) negation_word binary_word o ≡ words_in now block o
  unfolding worth_of words_in word
  answered none = refl
  answered (some e) = ap (λ x. Some (x, size e)) (folded_word e)

pub returns : goal.returns
unfolding words_of
returns c = c.evaluate.ensures ∙ answered c.args.now c.args.block (read_expr c.args.s.now)
