-- The grounds 5 to 8, of the parts of a rule: what stands behind a name has one step part and at most one start part, and the reader's number is the first
-- that fits one of them, and 0 where none does. From the definitions of `Refusals`, by the laws of bytes, of expressions and of their grounds.
use Rattle.std.specs.Prelude.{ℕ, ◌+◌, ◌≤◌, ◌<◌, ◌≡◌, refl, ◌≢◌, Bool, true, false, List, ◌∷◌, ◌++◌, ltb, drop}
use Rattle.std.proofs.Common.{sym, ◌∙◌, subst, arith, length-append}
use Rattle.std.proofs.Math.Path.{ap}
use Rattle.std.proofs.lemmas.Bool.{false≢true}
use Rattle.std.proofs.Math.Option.{Option, none, some}
use borrow.Author.Tests.{lt-ltb, ltb-true, ltb-false}
use Rattle.std.proofs.Math.ListN.{length, take}
use Rattle.std.proofs.Math.Seq.{take-length, take-append_seam, drop-append-add}
use Rattle.lines.specs.declared.classes.Class.TheVariants.{InPart}
use Rattle.lines.specs.Lines.{all, fault_of}
use Rattle.rule_lines.specs.RuleLines.{step_length, parts_fault}
use Rattle.lines.specs.Written.{LegalExpr}
use Rattle.lines.specs.Laws.Bytes.{prefix_le, all_prefix}
use Rattle.lines.proofs.Laws.Numbers.{tested}
use Rattle.lines.proofs.Laws.Expressions.{fault_there, fault_back}
use Rattle.rule_lines.proofs.Laws.Numbers.{by_parts}
use Rattle.rule_lines.proofs.Laws.Parts.{ends_at_colon, ends_with_line, colon_behind}
use Rattle.models.specs.Refusals.{IsN, HasParts, step_alone, step_and_start, StepPassed}
use Rattle.models.specs.Laws.Grounds.{undivided_in_part, in_part_undivided, Unfit, unfit_late, Tried, tried_none, tried_as, untried, expression_tried}

-- ---- the parts that the reader finds

-- of what stands behind a name
module _ (e : List ℕ) where
  abbrev pub step_found : List ℕ
  step_found = take (step_length e) e

  -- whether a `:` stands behind the step part, and so a start part
  abbrev pub has_start : Bool
  has_start = ltb (step_length e) (length e)

  abbrev pub start_found : List ℕ
  start_found = drop (step_length e + 1) e

  undivided : all InPart step_found ≡ true
  unfolding step_length
  undivided = all_prefix InPart e

  -- they are its parts
  pub both_found : has_start ≡ true → HasParts e step_found (some start_found)
  both_found b = step_and_start (in_part_undivided step_found undivided) (colon_behind e (ltb-true (step_length e) (length e) b))

  alone_found : has_start ≡ false → HasParts e step_found none
  unfolding step_length
  alone_found b =
      let whole : step_length e ≡ length e = omega (arith, prefix_le InPart e, ltb-false (step_length e) (length e) b) in
      step_alone (in_part_undivided step_found undivided) (sym (take-length e) ∙ ap (λ k. take k e) (sym whole))

  pub step_found_lem : (start : Option (List ℕ)) × HasParts e step_found start
  step_found_lem = tested has_start (λ b. (some start_found, both_found b)) (λ b. (none, alone_found b))

-- and it has no others
one_step : {e step : List ℕ} {start : Option (List ℕ)} → HasParts e step start → step_found e ≡ step
one_step {step = step} (step_alone f q) =
    let size : step_length step ≡ length step = ends_with_line step (undivided_in_part step f) in
    ap step_found q ∙ ap (λ k. take k step) size ∙ take-length step
one_step {step = step} (step_and_start {start} f q) =
    let size : step_length (step ++ 58 ∷ start) ≡ length step = ends_at_colon step start (undivided_in_part step f) in
    ap step_found q ∙ ap (λ k. take k (step ++ 58 ∷ start)) size ∙ take-append_seam step (58 ∷ start)

one_start : {e step start : List ℕ} {o : Option (List ℕ)} → HasParts e step o → o ≡ some start → (has_start e ≡ true) × (start_found e ≡ start)
one_start (step_alone f q) r = let z : ◌≡◌ {A = ℕ} 0 1 = cc in absurd (omega arith)
one_start {step = step} {start} (step_and_start {start = d} f q) r =
    let w : List ℕ = step ++ 58 ∷ d in
    let size : step_length w ≡ length step = ends_at_colon step d (undivided_in_part step f) in
    let same : d ≡ start = cc in (
      ap has_start q ∙ lt-ltb (step_length w) (length w) (omega (arith, size, length-append step (58 ∷ d))),
      ap start_found q ∙ ap (λ k. drop (k + 1) w) size ∙ drop-append-add step (58 ∷ d) 1 ∙ same,
    )

-- ---- their numbers

-- The numbers that fit the parts e behind a name: those of the step part, and after this has passed those of the start part.
pub data UnfitParts (text e : List ℕ) : ℕ → Type 0 where
  unfit_step : {step : List ℕ} {start : Option (List ℕ)} {m : ℕ} → HasParts e step start → Unfit text true step m → UnfitParts text e m
  unfit_start : {step start : List ℕ} {m : ℕ} → HasParts e step (some start) → StepPassed text step → Unfit text false start m → UnfitParts text e m

pub parts_late : {text e : List ℕ} {m number : ℕ} → number ≤ 5 → UnfitParts text e m → ¬ (m < number)
parts_late b (unfit_step p u) = unfit_late b u
parts_late b (unfit_start p d u) = unfit_late b u

module _ (text : List ℕ) (n : ℕ) (isN : IsN text n) where
  -- a step part has passed exactly when no number refuses it
  pub passed_there : {step : List ℕ} → fault_of n true step ≡ 0 → StepPassed text step
  passed_there {step} z = let s = fault_back n true step z in record { n = n; count = isN; expression = s.0; legal = s.1; is = s.2 }

  passed_back : ((m : ℕ) → IsN text m → m ≡ n) → {step : List ℕ} → StepPassed text step → fault_of n true step ≡ 0
  passed_back one-N p =
      let legal : LegalExpr n true p.expression = subst (λ m. LegalExpr m true p.expression) (one-N p.n p.count) p.legal in
      ap (fault_of n true) p.is ∙ fault_there n true p.expression isN.range.at_most legal

  module _ (one-N : (m : ℕ) → IsN text m → m ≡ n) (e : List ℕ) where
    abbrev step_tried : Tried (Unfit text true (step_found e)) (fault_of n true (step_found e))
    step_tried = expression_tried text n isN one-N true (step_found e)

    -- where a number refuses the step part, no other part counts
    by_step : fault_of n true (step_found e) ≢ 0 → {m : ℕ} → UnfitParts text e m → Unfit text true (step_found e) m
    by_step h {m} (unfit_step p u) = subst (λ x. Unfit text true x m) (sym (one_step p)) u
    by_step h (unfit_start p d u) = absurd (h (ap (fault_of n true) (one_step p) ∙ passed_back one-N d))

    -- where none does, the start part alone does
    by_start : fault_of n true (step_found e) ≡ 0 → {m : ℕ} → UnfitParts text e m → (has_start e ≡ true) × Unfit text false (start_found e) m
    by_start z {m} (unfit_step p u) = absurd (untried step_tried z m (subst (λ x. Unfit text true x m) (sym (one_step p)) u))
    by_start z {m} (unfit_start p d u) = let s = one_start p refl in (s.0, subst (λ x. Unfit text false x m) (sym s.1) u)

    -- the reader's number is the first that fits
    pub parts_tried : Tried (UnfitParts text e) (parts_fault n (step_length e) e)
    parts_tried =
        by_parts n (step_length e) e (Tried (UnfitParts text e))
        (λ h. tried_as (λ m u. unfit_step (step_found_lem e).1 u) (λ m x. by_step h x) step_tried)
        (λ z b.
        tried_as (λ m u. unfit_start (both_found e b) (passed_there z) u) (λ m x. (by_start z x).1) (expression_tried text n isN one-N false (start_found e)))
        (λ z b. tried_none (λ m x. false≢true (sym b ∙ (by_start z x).0)))
