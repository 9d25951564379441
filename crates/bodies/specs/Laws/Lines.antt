-- What follows the first line of a text, in terms of the bytes before the first byte 10. From the definition of `after_line`, by the laws of bytes.
-- Assumes nothing.
use Rattle.std.specs.Prelude.{ℕ, suc, ◌+◌, ◌≤◌, ◌≡◌, refl, Bool, true, false, cond, not, List, [], ◌∷◌, ◌++◌, eqb, length, drop}
use Rattle.std.proofs.Common.{sym, ap, ◌∙◌, add-one, arith}
use Rattle.std.proofs.Math.Seq.{drop-append-add}
use Rattle.lines.specs.declared.classes.Class.TheVariants.{InLine}
use Rattle.lines.specs.Bytes.{belongs, prefix}
use Rattle.lines.specs.Lines.{line_length, all}
use Rattle.lines.specs.Laws.Bytes.{prefix_le, prefix_seam}
use Rattle.bodies.specs.Properties.{after_line}

pub line_dropped : (s : List ℕ) → after_line s ≡ drop (suc (line_length s)) s
unfolding after_line line_length belongs
line_dropped [] = refl
line_dropped (b ∷ s) = go (eqb b 10) (line_dropped s)
  where
    go : (t : Bool) → after_line s ≡ drop (suc (line_length s)) s → cond t s (after_line s) ≡ drop (cond (not t) (1 + prefix InLine s) 0) s
    go true e = refl
    go false e = let on : suc (line_length s) ≡ 1 + prefix InLine s = omega arith in e ∙ ap (λ n. drop n s) on

-- what follows a line with its byte 10
pub line_seam : (l rest : List ℕ) → all InLine l ≡ true → after_line (l ++ 10 ∷ rest) ≡ rest
unfolding line_length belongs
line_seam l rest a =
    line_dropped (l ++ 10 ∷ rest)
    ∙ ap (λ n. drop n (l ++ 10 ∷ rest)) (ap suc (prefix_seam InLine l 10 rest a refl) ∙ sym (add-one (length l)))
    ∙ drop-append-add l (10 ∷ rest) 1

-- a line ends within the text
pub line_within : (s : List ℕ) → line_length s ≤ length s
unfolding line_length
line_within s = prefix_le InLine s
