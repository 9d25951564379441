-- The sections of a report, as bytes: the lines of the verdicts, of the kinds of rules and of a list. From document 01, "The report", and
-- document 02, "Several properties together": each line is ended by byte 10. Assumes nothing: these are definitions.
use Rattle.std.specs.Prelude.{ℕ, Bool, cond, length}
use mathlib.Core.List.{List, [], ◌∷◌, ◌++◌, flat_map}
use Rattle.sets.specs.Bit.{full}
use Rattle.sets.specs.Tabulated.{tabulate}
use Rattle.lines.specs.Bytes.{bytes}
use Rattle.lines.specs.Written.{line}
use Rattle.models.specs.Written.{Described, rule_at, names_of}
use Rattle.models.specs.Changed.{by_property}
use Rattle.systems.specs.System.{System}
use Rattle.systems.specs.Verdict.{holds, trace_of}
use Rattle.semantics.specs.Meaning.{system_of}
use Rattle.sorting.specs.declared.which.WhichList.{WhichList}
use Rattle.sorting.specs.declared.which.WhichList.TheVariants.{Cores, Cuts}
use Rattle.sorting.specs.declared.kinds.Kind.TheVariants.{Must, May, Irrelevant}
use Rattle.sorting.specs.Which.{of_kind}
use Rattle.pages.specs.Numbers.{number_line}

-- names with commas between them; where there is none, `-`
unfoldable pub separated : List (List ℕ) → List ℕ
unfolding flat_map
separated [] = bytes "-"
separated (name ∷ names) = name ++ flat_map (λ n. bytes "," ++ n) names

-- the name of rule i
unfoldable pub name_in : Described → ℕ → List ℕ
name_in M i = (rule_at M.rules i).name

-- a set as the names of its rules, in the model's order; the empty set is `-`
unfoldable pub set_text : Described → ℕ → List ℕ
unfolding separated names_of
set_text M S = separated (names_of M S)

unfoldable pub set_line : Described → List ℕ → ℕ → List ℕ
unfolding line set_text
set_line M key S = line key (set_text M S)

-- `verdict=holds` or `verdict=broken`, and one `state=` line for each state of the trace if broken
unfoldable pub verdict_lines : System → List ℕ
unfolding line number_line holds trace_of flat_map
verdict_lines N =
    cond (holds N) (line (bytes "verdict=") (bytes "holds"))
    (line (bytes "verdict=") (bytes "broken") ++ flat_map (number_line (bytes "state=")) (trace_of N))

-- the verdict on the full set by property j alone, with its own trace
unfoldable pub verdict_by : Described → ℕ → List ℕ
verdict_by M j = verdict_lines (system_of (by_property j M) (full (length M.rules)))

-- the verdict by each property, in the text's order
unfoldable pub verdicts_of : Described → List ℕ
verdicts_of M = flat_map (verdict_by M) (tabulate (length M.props) (λ j. j))

-- `must=`, `may=` and `irr=`: the rules of each kind, of those that h judges
unfoldable pub kind_lines : Described → (ℕ → Bool) → List ℕ
kind_lines M h =
    let R = length M.rules in
    set_line M (bytes "must=") (of_kind Must R h)
    ++ (set_line M (bytes "may=") (of_kind May R h)
    ++ set_line M (bytes "irr=") (of_kind Irrelevant R h))

-- the keys of a list: that of its count, and that of each of its sets
unfoldable pub count_key : WhichList → List ℕ
count_key Cores = bytes "cores="
count_key Cuts = bytes "cuts="

unfoldable pub set_key : WhichList → List ℕ
set_key Cores = bytes "core="
set_key Cuts = bytes "cut="

-- a list of sets: its count, and a line each
unfoldable pub list_lines : Described → WhichList → List ℕ → List ℕ
unfolding number_line count_key set_line set_key flat_map
list_lines M which sets = number_line (count_key which) (length sets) ++ flat_map (set_line M (set_key which)) sets
