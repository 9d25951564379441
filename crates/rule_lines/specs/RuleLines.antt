-- The rule lines, each read by itself: the first of the numbers 1 and 3 to 8 that fits, in the documents' order within a line, or where the parts of the
-- rule stand and how many bytes the line has. From document 01, "The model text" and "When a call is turned away", and document 02, "Rules that speak
-- about power-up". Assumes nothing.
use Rattle.std.specs.Prelude.{ℕ, ◌+◌, ◌-◌, Bool, true, false, cond, ◌&&◌, List, Option, Some, None, eqb, leb, ltb, length, get_or, take, drop}
use Rattle.std.specs.List.{list_any}
use Rattle.lines.specs.declared.classes.Class.TheVariants.{InName, InPart}
use Rattle.rule_lines.specs.declared.names.RuleParts.{RuleParts}
use Rattle.lines.specs.Bytes.{prefix}
use Rattle.slices.specs.Same.{same}
use Rattle.lines.specs.Lines.{Line, Fault, Read, rule_key, line_length, is_line, value_of, unless_fault, fault_of}

-- the value begins with a proper name and `:`
unfoldable pub is_named : List ℕ → Bool
unfolding prefix
is_named v = leb 1 (prefix InName v) && (leb (prefix InName v) 8 && eqb (get_or v (prefix InName v) 0) 58)

-- how many bytes behind the first of a step part the start part begins, if there is one
abbrev pub StartPlace : Type 0
StartPlace = Option ℕ

-- no part stands anywhere
abbrev pub no_parts : RuleParts
no_parts = record { name = 0; step = 0; start = None }

-- the name of a rule whose parts stand at these places
unfoldable pub name_of : List ℕ → RuleParts → List ℕ
name_of text p = take (p.step - 1 - p.name) (drop p.name text)

-- one of the earlier rules has this name
unfoldable pub is_taken : List ℕ → List RuleParts → List ℕ → Bool
unfolding name_of same
is_taken text earlier name = list_any (λ p. same (name_of text p) name) earlier

-- ---- the parts behind the name, where e is what stands behind its `:`

-- how many bytes the step part has: it ends before the second `:`, or where the line does
unfoldable pub step_length : List ℕ → ℕ
unfolding prefix
step_length e = prefix InPart e

-- how far behind the first byte of a step part of so many bytes the start part begins, behind the second `:`, if there is one
unfoldable pub start_from : ℕ → List ℕ → StartPlace
start_from step e = cond (ltb step (length e)) (Some (step + 1)) None

-- the number that refuses the start part, 0 if none does or there is none; it has small letters only
unfoldable pub start_fault : ℕ → ℕ → List ℕ → ℕ
unfolding fault_of
start_fault n step e = cond (ltb step (length e)) (fault_of n false (drop (step + 1) e)) 0

-- the number that refuses the parts, 0 if none does: that of the step part, and after this has passed that of the start part
unfoldable pub parts_fault : ℕ → ℕ → List ℕ → ℕ
unfolding fault_of unless_fault start_fault
parts_fault n step e = unless_fault (λ number. number) (fault_of n true (take step e)) (start_fault n step e)

-- where the parts of a rule stand whose line begins at `at` and whose name has k bytes: the name behind `rule=`, the step part behind `:`, and how far
-- behind that the start part, if there is one
unfoldable pub parts_at : ℕ → ℕ → List ℕ → RuleParts
unfolding step_length start_from
parts_at at k e = record { name = at + length rule_key; step = at + (length rule_key + 1 + k); start = start_from (step_length e) e }

-- a rule line, where s is what the text has from `at` on and `taken` tells the names of the earlier rules: `rule=`, a name, `:`, a step part, and it may end
-- in a second `:` and a start part
unfoldable pub rule_line : ℕ → (List ℕ → Bool) → ℕ → List ℕ → Line RuleParts
unfolding is_line value_of is_named prefix step_length parts_fault unless_fault parts_at line_length
rule_line n taken at s =
    let v = value_of rule_key s in
    let k = prefix InName v in
    let e = drop (k + 1) v in
    cond (is_line rule_key s)
    (cond (is_named v)
    (cond (taken (take k v))
    (Fault 4)
    (unless_fault Fault (parts_fault n (step_length e) e) (Read (parts_at at k e) (line_length s + 1))))
    (Fault 3))
    (Fault 1)
