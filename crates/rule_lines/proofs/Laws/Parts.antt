-- The parts of a rule are read exactly where they are written: the step part ends at the second `:`, no number refuses the parts of a legal rule, and parts
-- that no number refuses are those of one. From the definitions of `RuleLines` and `Written`, by the laws of bytes and of expressions.
use Rattle.std.specs.Prelude.{ℕ, ◌+◌, ◌≤◌, ◌<◌, ◌≡◌, refl, true, false, List, ◌∷◌, ◌++◌, Some, None, eqb, ltb, length, get_or, take, drop}
use Rattle.std.proofs.Common.{sym, ap, ap₂, ◌∙◌, append-nil, arith, add-one, eqb-true, lt-ltb, le-ltb, ltb-true, ltb-false, length-append, length-take-le}
use Rattle.std.proofs.Math.Option.{Option, none, some}
use Rattle.std.proofs.lemmas.Bool.{not-false}
use Rattle.std.proofs.Math.Seq.{take-append_seam, drop-append-add, split_at, take-length}
use Rattle.exprs.specs.Expr.{Expr, written, size}
use Rattle.lines.specs.declared.classes.Class.TheVariants.{InPart}
use Rattle.lines.specs.Bytes.{belongs, prefix}
use Rattle.lines.specs.Lines.{all, fault_of}
use Rattle.lines.specs.Written.{LegalExpr, LegalStart, written_start}
use Rattle.lines.specs.Laws.Bytes.{prefix_le, prefix_seam, prefix_ends}
use Rattle.lines.proofs.Laws.Expressions.{fault_there, fault_back, legal_in_part}
use Rattle.rule_lines.specs.RuleLines.{StartPlace, step_length, start_from, parts_fault}
use Rattle.rule_lines.proofs.Laws.Numbers.{parts_numbers, by_parts}

-- ---- where the step part ends

-- it ends at the first `:`
pub ends_at_colon : (step start : List ℕ) → all InPart step ≡ true → step_length (step ++ 58 ∷ start) ≡ length step
unfolding step_length belongs
ends_at_colon step start a = prefix_seam InPart step 58 start a refl

-- or where there is none, with the line
pub ends_with_line : (step : List ℕ) → all InPart step ≡ true → step_length step ≡ length step
unfolding step_length all
ends_with_line step a = eqb-true (prefix InPart step) (length step) a

-- a second `:` stands behind it where bytes do
pub colon_behind : (e : List ℕ) → step_length e < length e → e ≡ take (step_length e) e ++ 58 ∷ drop (step_length e + 1) e
unfolding step_length belongs
colon_behind e h =
    let k : ℕ = prefix InPart e in
    let colon : get_or e k 0 ≡ 58 = eqb-true (get_or e k 0) 58 (not-false (eqb (get_or e k 0) 58) (prefix_ends InPart e h)) in
    split_at e k 0 h ∙ ap₂ (λ x m. take k e ++ x ∷ drop m e) colon (sym (add-one k))

-- ---- the parts of a legal rule

-- how far behind the first byte of the step part the start part stands, if there is one
abbrev pub start_behind : Expr → Option Expr → StartPlace
start_behind step none = None
start_behind step (some e) = Some (length (written step) + 1)

-- What reading finds of parts that are written.
pub record Parted (n : ℕ) (step : Expr) (start : Option Expr) (e : List ℕ) : Type 0 where
  pub step_length_is : step_length e ≡ length (written step)
  pub start_from_is : start_from (step_length e) e ≡ start_behind step start
  pub unrefused : parts_fault n (step_length e) e ≡ 0

pub parts_there : (n : ℕ) → n ≤ 7 → (step : Expr) → LegalExpr n true step → (start : Option Expr) → LegalStart n start
    → Parted n step start (written step ++ written_start start)
unfolding written_start start_from
parts_there n h step l none k =
    let w : List ℕ = written step in
    let size : step_length w ≡ length w = ends_with_line w (legal_in_part n true step h l) in
    let last : ltb (length w) (length w) ≡ false = le-ltb (length w) (length w) (omega arith) in
    rw (append-nil w) (record {
      step_length_is = size;
      start_from_is = rw (size, last);
      unrefused = rw size ((parts_numbers n (length w) w).by_neither (ap (fault_of n true) (take-length w) ∙ fault_there n true step h l) last);
    })
parts_there n h step l (some d) k =
    let w : List ℕ = written step in
    let e : List ℕ = w ++ 58 ∷ written d in
    let size : step_length e ≡ length w = ends_at_colon w (written d) (legal_in_part n true step h l) in
    let more : ltb (length w) (length e) ≡ true = lt-ltb (length w) (length e) (omega (arith, length-append w (58 ∷ written d))) in
    record {
      step_length_is = size;
      start_from_is = rw (size, more);
      unrefused =
          rw size
          ((parts_numbers n (length w) e).by_start (ap (fault_of n true) (take-append_seam w (58 ∷ written d)) ∙ fault_there n true step h l) more
          ∙ ap (fault_of n false) (drop-append-add w (58 ∷ written d) 1) ∙ fault_there n false d h k);
    }

-- Parts that no number refuses are those of a legal rule.
pub record LegalParts (n : ℕ) (e : List ℕ) : Type 0 where
  pub step : Expr
  pub start : Option Expr
  pub step_legal : LegalExpr n true step
  pub start_legal : LegalStart n start
  pub are : e ≡ written step ++ written_start start

pub parts_back : (n : ℕ) (e : List ℕ) → parts_fault n (step_length e) e ≡ 0 → LegalParts n e
unfolding written_start step_length
parts_back n e =
    by_parts n (step_length e) e (λ number. number ≡ 0 → LegalParts n e)
    (λ h q. absurd (h q))
    (λ z b q.
    let s = fault_back n true (take (step_length e) e) z in
    let t = fault_back n false (drop (step_length e + 1) e) q in
    record {
      step = s.0;
      start = some t.0;
      step_legal = s.1;
      start_legal = t.1;
      are = colon_behind e (ltb-true _ _ b) ∙ ap₂ (λ x y. x ++ 58 ∷ y) s.2 t.2;
    })
    (λ z b _.
    let s = fault_back n true (take (step_length e) e) z in
    let all : step_length e ≡ length e = omega (arith, prefix_le InPart e, ltb-false (step_length e) (length e) b) in
    record {
      step = s.0;
      start = none;
      step_legal = s.1;
      start_legal = tt;
      are = sym (take-length e) ∙ ap (λ k. take k e) (sym all) ∙ s.2 ∙ sym (append-nil (written s.0));
    })

-- a step part that has passed has at most 64 bytes
pub step_short : (n : ℕ) (e : List ℕ) → parts_fault n (step_length e) e ≡ 0 → step_length e ≤ 64
unfolding size step_length
step_short n e q =
    let f : fault_of n true (take (step_length e) e) ≡ 0 = by_parts n (step_length e) e (λ number. number ≡ 0 → fault_of n true (take (step_length e) e) ≡ 0) (λ h q. absurd (h q)) (λ z _ _. z) (λ z _ _. z) q in
    let s = fault_back n true (take (step_length e) e) f in
    omega (arith, s.1.bytes, ap length s.2, length-take-le (step_length e) e (prefix_le InPart e))
