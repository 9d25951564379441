-- An answer tells its result: two results that read alike are the same, since no two reasons have one number.
-- From the definitions of `Numbers` and `Answers`.
use Rattle.std.specs.Prelude.{ℕ, ◌≡◌, Result, Ok, Err, cond, eqb}
use Rattle.std.proofs.Common.{refl, ap, ap₂, sym, ◌∙◌}
use Rattle.refusals.specs.declared.refusal.Refusal.{Refusal}
use Rattle.refusals.specs.declared.refusal.Reason.{Reason}
use Rattle.refusals.specs.declared.refusal.Reason.TheVariants.{LineMissing, CountWrong, NameImproper, NameTaken, LengthWrong, ByteOther, LetterBeyond, NotOneExpression, BytesFollow, SetBeyond, BytesFewer, ListOdd, NoOrder, NoLog, InitUnmet}
use Rattle.refusals.specs.Numbers.{number_of}
use Rattle.refusals.specs.Answers.{answer_of}

-- the reason with a number; the last one where there is none
reason_of : ℕ → Reason
reason_of n =
    cond (eqb n 1) LineMissing
    (cond (eqb n 2) CountWrong
    (cond (eqb n 3) NameImproper
    (cond (eqb n 4) NameTaken
    (cond (eqb n 5) LengthWrong
    (cond (eqb n 6) ByteOther
    (cond (eqb n 7) LetterBeyond
    (cond (eqb n 8) NotOneExpression
    (cond (eqb n 9) BytesFollow
    (cond (eqb n 10) SetBeyond
    (cond (eqb n 11) BytesFewer
    (cond (eqb n 12) ListOdd
    (cond (eqb n 13) NoOrder
    (cond (eqb n 14) NoLog InitUnmet)))))))))))))

told : (a : Reason) → reason_of (number_of a) ≡ a
unfolding reason_of
told LineMissing = refl
told CountWrong = refl
told NameImproper = refl
told NameTaken = refl
told LengthWrong = refl
told ByteOther = refl
told LetterBeyond = refl
told NotOneExpression = refl
told BytesFollow = refl
told SetBeyond = refl
told BytesFewer = refl
told ListOdd = refl
told NoOrder = refl
told NoLog = refl
told InitUnmet = refl

pub one_reason : (a b : Reason) → number_of a ≡ number_of b → a ≡ b
one_reason a b e = sym (told a) ∙ (ap reason_of e ∙ told b)

pub one_refusal : (a b : Refusal) → number_of a.reason ≡ number_of b.reason → a.line ≡ b.line → a ≡ b
one_refusal a b e f = ap₂ (λ (x : Reason) (l : ℕ). record { reason = x; line = l }) (one_reason a.reason b.reason e) f

pub one_result : {A : Type 0} → (a b : Result A Refusal) → answer_of a ≡ answer_of b → a ≡ b
one_result (Ok a) (Ok b) e = let h : a ≡ b = cc in cc
one_result (Ok a) (Err r) e = cc
one_result (Err r) (Ok a) e = cc
one_result (Err r) (Err s) e =
    let n : number_of r.reason ≡ number_of s.reason = cc in
    let l : r.line ≡ s.line = cc in
    ap Err (one_refusal r s n l)
