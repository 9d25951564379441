-- Which number refuses a rule line, by cases: the first test that is failed tells it. The theorem of the crate `models` about the first number that fits
-- rests on this for the order within a line. From the definitions of `RuleLines`.
use Rattle.std.specs.Prelude.{ℕ, zero, suc, ◌+◌, ◌≡◌, refl, ◌≢◌, Bool, false, List, ltb, length, take, drop}
use Rattle.std.proofs.Common.{sym, subst, ◌∙◌, arith}
use Rattle.std.proofs.Math.Bool.{true}
use Rattle.lines.specs.declared.classes.Class.TheVariants.{InName}
use Rattle.rule_lines.specs.declared.names.RuleParts.{RuleParts}
use Rattle.lines.specs.Bytes.{prefix}
use Rattle.lines.specs.Lines.{Line, Fault, Read, rule_key, line_length, is_line, value_of, unless_fault, fault_of}
use Rattle.rule_lines.specs.RuleLines.{is_named, step_length, start_fault, parts_fault, parts_at, rule_line}
use Rattle.lines.proofs.Laws.Numbers.{tested}
use Rattle.lines.proofs.Laws.Lines.{unfaulted}
use Rattle.lines.proofs.Laws.Ended.{faulted}

-- ---- the parts behind the name

module _ (n step : ℕ) (e : List ℕ) where
  -- The numbers of the step part come before those of the start part.
  pub record PartsNumbers (number : ℕ) : Type 0 where
    pub by_step : fault_of n true (take step e) ≢ 0 → number ≡ fault_of n true (take step e)
    pub by_start : fault_of n true (take step e) ≡ 0 → ltb step (length e) ≡ true → number ≡ fault_of n false (drop (step + 1) e)
    pub by_neither : fault_of n true (take step e) ≡ 0 → ltb step (length e) ≡ false → number ≡ 0

  pub parts_numbers : PartsNumbers (parts_fault n step e)
  unfolding parts_fault start_fault
  parts_numbers = record {
    by_step = λ h. faulted (λ number. number) (fault_of n true (take step e)) (start_fault n step e) h;
    by_start = λ h b. unfaulted (λ number. number) (fault_of n true (take step e)) (start_fault n step e) h ∙ rw b;
    by_neither = λ h b. unfaulted (λ number. number) (fault_of n true (take step e)) (start_fault n step e) h ∙ rw b;
  }

  -- what is true in each of these cases is true of the number
  pub by_parts : (P : ℕ → Type 0) → (fault_of n true (take step e) ≢ 0 → P (fault_of n true (take step e)))
      → (fault_of n true (take step e) ≡ 0 → ltb step (length e) ≡ true → P (fault_of n false (drop (step + 1) e)))
      → (fault_of n true (take step e) ≡ 0 → ltb step (length e) ≡ false → P 0) → P (parts_fault n step e)
  by_parts P first second none = go (fault_of n true (take step e)) refl
    where
      x : PartsNumbers (parts_fault n step e)
      x = parts_numbers

      go : (number : ℕ) → fault_of n true (take step e) ≡ number → P (parts_fault n step e)
      go zero z =
          tested (ltb step (length e)) (λ b. subst P (sym (x.by_start z b)) (second z b)) (λ b. subst P (sym (x.by_neither z b)) (none z b))
      go (suc number) s =
          let h : fault_of n true (take step e) ≢ 0 = λ z. let q : ◌≡◌ {A = ℕ} 0 (suc number) = sym z ∙ s in absurd (omega arith) in
          subst P (sym (x.by_step h)) (first h)

-- ---- the line

module _ (n : ℕ) (taken : List ℕ → Bool) (at : ℕ) (s : List ℕ) where
  -- what stands behind `rule=`, and how many bytes of a name it begins with
  abbrev value : List ℕ
  value = value_of rule_key s

  abbrev named : ℕ
  named = prefix InName value

  -- what stands behind the name's `:`
  abbrev parts : List ℕ
  parts = drop (named + 1) value

  -- what the line is behind a name that no earlier rule has
  abbrev behind_name : Line RuleParts
  behind_name = unless_fault Fault (parts_fault n (step_length parts) parts) (Read (parts_at at named parts) (line_length s + 1))

  -- 1 comes before 3, 3 before 4, and 4 before the numbers of the parts.
  pub record RuleNumbers (l : Line RuleParts) : Type 0 where
    pub by_line : is_line rule_key s ≡ false → l ≡ Fault 1
    pub by_name : is_line rule_key s ≡ true → is_named value ≡ false → l ≡ Fault 3
    pub by_taken : is_line rule_key s ≡ true → is_named value ≡ true → taken (take named value) ≡ true → l ≡ Fault 4
    pub by_rest : is_line rule_key s ≡ true → is_named value ≡ true → taken (take named value) ≡ false → l ≡ behind_name

  pub rule_numbers : RuleNumbers (rule_line n taken at s)
  unfolding rule_line
  rule_numbers = record {
    by_line = λ a. rw a;
    by_name = λ a b. rw (a, b);
    by_taken = λ a b c. rw (a, b, c);
    by_rest = λ a b c. rw (a, b, c);
  }

  -- what is true in each of these cases is true of the line
  pub by_rule : (P : Line RuleParts → Type 0) → (is_line rule_key s ≡ false → P (Fault 1)) → (is_line rule_key s ≡ true → is_named value ≡ false → P (Fault 3))
      → (is_line rule_key s ≡ true → is_named value ≡ true → taken (take named value) ≡ true → P (Fault 4))
      → (is_line rule_key s ≡ true → is_named value ≡ true → taken (take named value) ≡ false → P behind_name) → P (rule_line n taken at s)
  by_rule P one three four rest =
      let x = rule_numbers in
      tested (is_line rule_key s) (λ a.
      tested (is_named value) (λ b.
      tested (taken (take named value)) (λ c. subst P (sym (x.by_taken a b c)) (four a b c)) (λ c. subst P (sym (x.by_rest a b c)) (rest a b c)))
      (λ b. subst P (sym (x.by_name a b)) (three a b)))
      (λ a. subst P (sym (x.by_line a)) (one a))
