-- A rule line by where it ends, and the parts behind its name by one test after the other: the steps of the functions that read them.
-- From the definitions of `RuleLines`, by the law of any line's end and that of the step part's length.
use Rattle.std.specs.Prelude.{ℕ, ◌+◌, ◌-◌, ◌≤◌, ◌≡◌, Bool, true, false, cond, ◌&&◌, List, eqb, leb, ltb, length, get_or, take, drop}
use Rattle.std.specs.Option.{option_map_or}
use Rattle.std.proofs.lemmas.Bool.Decides.{nat_tests}
use Rattle.lines.specs.declared.classes.Class.TheVariants.{InName, InPart}
use Rattle.rule_lines.specs.declared.names.RuleParts.{RuleParts}
use Rattle.lines.specs.Bytes.{prefix}
use Rattle.lines.specs.Lines.{Line, Fault, Read, rule_key, end_of, unless_fault, fault_of}
use Rattle.rule_lines.specs.RuleLines.{is_named, step_length, start_from, start_fault, parts_fault, parts_at, rule_line}
use Rattle.lines.proofs.Laws.Ended.{by_end, end_below, unless_fault_is, number_from_one}
use Rattle.rule_lines.proofs.Laws.Parts.{step_short}

-- the step part's number first, and where there is none that of the start part
pub parts_by_tests : (n step : ℕ) (e : List ℕ)
    → parts_fault n step e
    ≡ cond (eqb (fault_of n true (take step e)) 0) (cond (ltb step (length e)) (fault_of n false (drop (step + 1) e)) 0) (fault_of n true (take step e))
unfolding parts_fault start_fault
parts_by_tests n step e = unless_fault_is (λ number. number) (fault_of n true (take step e)) (start_fault n step e)

-- a step part that has passed is short
pub part_short : (n : ℕ) (e : List ℕ) → parts_fault n (prefix InPart e) e ≡ 0 → prefix InPart e ≤ 64
unfolding step_length
part_short n e q = step_short n e q

-- what a line says whose value is v and which ends there
abbrev pub rule_told : ℕ → (List ℕ → Bool) → ℕ → List ℕ → ℕ → Line RuleParts
rule_told n taken at v end =
    let k = prefix InName v in
    let e = drop (k + 1) v in
    let step = prefix InPart e in
    cond (leb 1 k && (leb k 8 && eqb (get_or v k 0) 58))
    (cond (taken (take k v))
    (Fault 4)
    (unless_fault Fault (parts_fault n step e) (Read (record { name = at + 5; step = at + (6 + k); start = start_from step e }) (end + 1))))
    (Fault 3)

pub rule_by_end : (n : ℕ) (taken : List ℕ → Bool) (at : ℕ) (s : List ℕ)
    → rule_line n taken at s ≡ option_map_or (λ end. rule_told n taken at (take (end - length rule_key) (drop (length rule_key) s)) end) (end_of rule_key s) (Fault 1)
unfolding rule_line is_named step_length parts_at
rule_by_end n taken at s = by_end rule_key s (λ v end. rule_told n taken at v end) (Fault 1)

pub ruleset parts_in_order = (parts_by_tests, number_from_one, nat_tests)

pub ruleset rule_in_order = (rule_by_end, end_below, part_short, unless_fault_is, number_from_one, nat_tests)
