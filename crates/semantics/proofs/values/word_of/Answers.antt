-- `semantics::values::word_of` meets its contract: the answer of `words` is the word of the expression, and where nothing can be read, no state
-- meets it. Assumes nothing.
use Prim.Native.Nat.{ℕ, ◌+◌, ◌*◌}
use mathlib.Core.Path.{◌≡◌, refl}
use Rattle.std.specs.Prelude.{unwrap_or, drop, List}
use Rattle.std.proofs.Math.Option.{Option, none, some}
use Rattle.sets.specs.Gathered.{set_of}
use Rattle.sets.specs.Laws.Gathered.{set_of_none}
use Rattle.exprs.specs.Expr.{Expr, value}
use Rattle.exprs.specs.Reading.{read_expr}
use Rattle.exprs.specs.Answers.{words_in, words_of}
use Rattle.models.specs.Written.{or_false, expr_at}
use Rattle.semantics.specs.Places.{meets, word_at}
use Rattle.semantics.proofs.values.word_of.Goals as goal

words_meet : (text : List ℕ) (place s block : ℕ) → (unwrap_or (words_of (drop place text) s block) (0, 0)).0 ≡ word_at text place s block
unfolding words_of words_in word_at meets expr_at or_false value
words_meet text place s block = go (read_expr (drop place text))
  where
    go : (o : Option Expr) → (unwrap_or (words_in s block o) (0, 0)).0 ≡ set_of 64 (λ t. value (or_false o) s (64 * block + t))
    go none = set_of_none 64
    go (some e) = refl

pub returns : goal.returns
returns c = rw (c.unwrap_or-word.ensures, c.words-found.ensures, c.rest.ensures.result_value) (words_meet _ _ _ _)
