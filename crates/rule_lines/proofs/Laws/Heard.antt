-- The ranges of what a rule line gives: it is refused by a number of 1 to 8, or its bytes are within bounds.
-- From the definition of `rule_line`, by the tests that a line has passed.
use Rattle.std.specs.Prelude.{ℕ, zero, suc, ◌+◌, ◌≤◌, ◌≡◌, Bool, true, false, List, length, take, drop}
use Rattle.std.proofs.Common.{arith}
use Rattle.lines.specs.declared.classes.Class.TheVariants.{InName}
use Rattle.rule_lines.specs.declared.names.RuleParts.{RuleParts}
use Rattle.lines.specs.Bytes.{prefix}
use Rattle.lines.specs.Lines.{Line, Fault, Read, line_length, is_line, value_of, unless_fault, rule_key}
use Rattle.rule_lines.specs.RuleLines.{step_length, parts_fault, parts_at, rule_line}
use Rattle.lines.specs.Written.{Within}
use Rattle.rule_lines.proofs.Laws.Numbers.{by_parts, by_rule}
use Rattle.lines.proofs.Laws.Heard.{bytes_within, fault_of_le}

-- A rule line of the text s is refused by a number of 1 to 8, or its bytes are within the text.
pub data RuleHeard (s : List ℕ) : Line RuleParts → Type 0 where
  rule_fault : (number : ℕ) → Within 1 8 number → RuleHeard s (Fault number)
  rule_said : {parts : RuleParts} {bytes : ℕ} → Within 1 (length s) bytes → RuleHeard s (Read parts bytes)

-- the bytes of a rule line that was read
pub rule_bytes : {s : List ℕ} {l : Line RuleParts} {parts : RuleParts} {bytes : ℕ} → RuleHeard s l → l ≡ Read parts bytes → Within 1 (length s) bytes
rule_bytes (rule_fault number h) q = cc
rule_bytes {bytes = bytes} (rule_said {bytes = c} h) q = let r : c ≡ bytes = cc in rw (← r) h

parts_fault_le : (n step : ℕ) (e : List ℕ) → parts_fault n step e ≤ 8
parts_fault_le n step e =
    by_parts n step e (λ number. number ≤ 8) (λ _. fault_of_le n true (take step e)) (λ _ _. fault_of_le n false (drop (step + 1) e)) (λ _ _. omega arith)

rule_unless : (s : List ℕ) (number : ℕ) (parts : RuleParts) → is_line rule_key s ≡ true → number ≤ 8
    → RuleHeard s (unless_fault Fault number (Read parts (line_length s + 1)))
unfolding unless_fault
rule_unless s zero parts l h = rule_said {bytes = line_length s + 1} (bytes_within rule_key s l)
rule_unless s (suc number) parts l h = rule_fault (suc number) (omega arith)

pub rule_heard : (n : ℕ) (taken : List ℕ → Bool) (at : ℕ) (s : List ℕ) → RuleHeard s (rule_line n taken at s)
rule_heard n taken at s =
    let v = value_of rule_key s in
    let k = prefix InName v in
    by_rule n taken at s (RuleHeard s)
    (λ _. rule_fault 1 (omega arith))
    (λ _ _. rule_fault 3 (omega arith))
    (λ _ _ _. rule_fault 4 (omega arith))
    (λ l _ _. let e = drop (k + 1) v in rule_unless s (parts_fault n (step_length e) e) (parts_at at k e) l (parts_fault_le n (step_length e) e))
