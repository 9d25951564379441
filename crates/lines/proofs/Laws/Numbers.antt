-- Which number refuses an expression, by cases: the first test that is failed tells it. The theorem of the crate `models` about the first number that
-- fits rests on this for the order within a line. From the definitions of `Lines`.
use Rattle.std.specs.Prelude.{ℕ, ◌≡◌, refl, Bool, true, false, cond, ◌&&◌, List, leb, length}
use Rattle.std.proofs.Common.{sym, subst}
use Rattle.std.proofs.lemmas.Bool.Decides.{nat_tests}
use Rattle.lines.specs.Laws.Bytes.{all_in_expression_of}
use Rattle.lines.specs.declared.classes.Class.TheVariants.{InExpression, Allowed, InExpressionOf}
use Rattle.lines.specs.Lines.{all, is_one, fault_of}

pub tested : {X : Type 0} (t : Bool) → (t ≡ true → X) → (t ≡ false → X) → X
tested true f g = f refl
tested false f g = g refl

-- ---- an expression

module _ (n : ℕ) (capitals : Bool) (e : List ℕ) where
  -- it has 1 to 64 bytes
  abbrev sized : Bool
  sized = leb 1 (length e) && leb (length e) 64

  -- its letters are those that may be there
  abbrev letters : Bool
  letters = all (Allowed n capitals) e

  -- 5 comes before 6, 6 before 7, and 7 before 8.
  pub record ExpressionNumbers (number : ℕ) : Type 0 where
    pub by_length : sized ≡ false → number ≡ 5
    pub by_byte : sized ≡ true → all InExpression e ≡ false → number ≡ 6
    pub by_letter : sized ≡ true → all InExpression e ≡ true → letters ≡ false → number ≡ 7
    pub by_form : sized ≡ true → all InExpression e ≡ true → letters ≡ true → is_one e ≡ false → number ≡ 8
    pub by_none : sized ≡ true → all InExpression e ≡ true → letters ≡ true → is_one e ≡ true → number ≡ 0

  pub expression_numbers : ExpressionNumbers (fault_of n capitals e)
  unfolding fault_of
  expression_numbers = record {
    by_length = λ a. rw a;
    by_byte = λ a b. rw (a, b);
    by_letter = λ a b c. rw (a, b, c);
    by_form = λ a b c d. rw (a, b, c, d);
    by_none = λ a b c d. rw (a, b, c, d);
  }

  -- what is true in each of these cases is true of the number
  pub by_expression : (P : ℕ → Type 0) → (sized ≡ false → P 5) → (sized ≡ true → all InExpression e ≡ false → P 6)
      → (sized ≡ true → all InExpression e ≡ true → letters ≡ false → P 7)
      → (sized ≡ true → all InExpression e ≡ true → letters ≡ true → is_one e ≡ false → P 8)
      → (sized ≡ true → all InExpression e ≡ true → letters ≡ true → is_one e ≡ true → P 0) → P (fault_of n capitals e)
  by_expression P five six seven eight none =
      let x = expression_numbers in
      tested sized (λ a.
      tested (all InExpression e) (λ b.
      tested letters (λ c.
      tested (is_one e) (λ d. subst P (sym (x.by_none a b c d)) (none a b c d)) (λ d. subst P (sym (x.by_form a b c d)) (eight a b c d)))
      (λ c. subst P (sym (x.by_letter a b c)) (seven a b c)))
      (λ b. subst P (sym (x.by_byte a b)) (six a b)))
      (λ a. subst P (sym (x.by_length a)) (five a))

  -- The tests in the order in which a legal expression is gone over once: whether the bytes are those of expressions is looked at where a byte or a letter is wrong.
  pub fault_by_tests : fault_of n capitals e
      ≡ cond sized (cond (all (InExpressionOf n capitals) e) (cond (is_one e) 0 8) (cond (all InExpression e) 7 6)) 5
  fault_by_tests =
      by_expression (λ number. number ≡ cond sized (cond (all (InExpressionOf n capitals) e) (cond (is_one e) 0 8) (cond (all InExpression e) 7 6)) 5)
      (λ a. rw a)
      (λ a b. rw (a, all_in_expression_of n capitals e, b))
      (λ a b c. rw (a, all_in_expression_of n capitals e, b, c))
      (λ a b c d. rw (a, all_in_expression_of n capitals e, b, c, d))
      (λ a b c d. rw (a, all_in_expression_of n capitals e, b, c, d))

pub ruleset by_tests = (fault_by_tests, nat_tests)
