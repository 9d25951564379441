-- An answer in the parts that document 01 names, the same for every call, and as the one 64-bit number that a C host gets.
-- From document 01, "Calls" and "When a call is turned away", and document 02. Assumes nothing: these are definitions.
use Rattle.std.specs.Prelude.{ℕ, ◌+◌, ◌-◌, ◌*◌, ◌/◌, ◌%◌, ◌^◌, ◌<◌, ◌≡◌, Bool, true, false, cond, Option, Some, None}
use Rattle.std.specs.Option.{is_none, unwrap_or}
use Rattle.sets.specs.declared.one_core.OneCore.{OneCore}
use Rattle.logs.specs.declared.blame.Blamed.{Blamed}
use Rattle.refusals.specs.Answers.{Answer, RefusedBy, Given}
use Rattle.lookup.specs.declared.answer.Suffices.{Suffices}
use Rattle.lookup.specs.declared.answer.Suffices.TheVariants.{CoreInside, CutApart, Unlisted}
use Rattle.calls.specs.declared.verdict.Verdict.{Verdict}
use Rattle.calls.specs.declared.verdict.Verdict.TheVariants.{Holds, Broken}
use Rattle.packing.specs.declared.parts.Parts.{Parts}

-- An accepted call gives number 0 and line 0 with its answer.
unfoldable pub counted : ℕ → Bool → ℕ → Parts
counted amount holds judgements = record { number = 0; line = 0; amount = amount; holds = holds; judgements = judgements }

unfoldable pub accepted : ℕ → Bool → Parts
unfolding counted
accepted amount holds = counted amount holds 0

-- Of a refused call every part but the number and the line is 0; a verdict then reads broken.
unfoldable pub refused : ℕ → ℕ → Parts
refused number line = record { number = number; line = line; amount = 0; holds = false; judgements = 0 }

-- The parts of an answer, by those of what an accepted call gives.
unfoldable pub parts_by : {A : Type 0} → (A → Parts) → Answer A → Parts
unfolding refused
parts_by parts (RefusedBy number line) = refused number line
parts_by parts (Given a) = parts a

-- A verdict, with the trace's length.
unfoldable pub verdict_parts : Verdict → Parts
unfolding accepted
verdict_parts Holds = accepted 0 true
verdict_parts (Broken states) = accepted states false

unfoldable pub judge_parts : Answer Verdict → Parts
unfolding parts_by verdict_parts
judge_parts a = parts_by verdict_parts a

-- The pairs tried, the number of sets, or a set.
unfoldable pub number_parts : ℕ → Parts
unfolding accepted
number_parts n = accepted n false

unfoldable pub reached_parts : Answer ℕ → Parts
unfolding parts_by number_parts
reached_parts a = parts_by number_parts a

unfoldable pub list_parts : Answer ℕ → Parts
unfolding parts_by number_parts
list_parts a = parts_by number_parts a

unfoldable pub set_parts : Answer ℕ → Parts
unfolding parts_by number_parts
set_parts a = parts_by number_parts a

-- Where the full set is broken, set 0 stands for no core.
unfoldable pub core_parts : Option ℕ → ℕ → Parts
unfolding counted
core_parts (Some S) judgements = counted S true judgements
core_parts None judgements = counted 0 false judgements

unfoldable pub found_parts : OneCore → Parts
unfolding core_parts
found_parts c = core_parts c.core c.judgements

unfoldable pub one_core_parts : Answer OneCore → Parts
unfolding parts_by found_parts
one_core_parts a = parts_by found_parts a

-- The blamed set, and whether no state of the log breaks a property. (Its place is told by a call of its own.)
unfoldable pub blamed_parts : Blamed → Parts
unfolding accepted
blamed_parts b = accepted b.set (is_none b.breach)

unfoldable pub blame_parts : Answer Blamed → Parts
unfolding parts_by blamed_parts
blame_parts a = parts_by blamed_parts a

-- 1 where a listed core is inside, 2 where a listed cut is apart, 0 for unlisted.
unfoldable pub said_parts : Suffices → Parts
unfolding accepted
said_parts (CoreInside place) = accepted 1 true
said_parts (CutApart place) = accepted 2 false
said_parts Unlisted = accepted 0 false

unfoldable pub suffices_parts : Answer Suffices → Parts
unfolding parts_by said_parts
suffices_parts a = parts_by said_parts a

-- The number, plus 256 times the line, plus 65,536 times the length, pairs, count or set, plus 2^40 for a verdict that holds or a log without a
-- breach, plus 2^41 times the judgements.
unfoldable pub packed : Parts → ℕ
packed p = p.number + 256 * p.line + 65536 * p.amount + cond p.holds (2 ^ 40) 0 + 2 ^ 41 * p.judgements

-- The place of the witness in the list that holds it; where it is unlisted or refused, 2^64 - 1.
unfoldable pub witness_place : Answer Suffices → ℕ
witness_place (RefusedBy number line) = 2 ^ 64 - 1
witness_place (Given (CoreInside place)) = place
witness_place (Given (CutApart place)) = place
witness_place (Given Unlisted) = 2 ^ 64 - 1

-- The place of the first state of a log that breaks a property, or the log's length; where it is refused, 2^64 - 1.
unfoldable pub breach_number : (states : ℕ) → Answer Blamed → ℕ
breach_number states (RefusedBy number line) = 2 ^ 64 - 1
breach_number states (Given b) = unwrap_or b.breach states

-- A version as one number: major, minor, patch.
abbrev pub version_number : ℕ → ℕ → ℕ → ℕ
version_number major minor patch = 1000000 * major + 1000 * minor + patch

-- ---- what the number gives back

-- Each part fits its place in the packed number.
pub record InRange (p : Parts) : Type 0 where
  pub number : p.number < 256
  pub line : p.line < 256
  pub amount : p.amount < 2 ^ 24
  pub judgements : p.judgements < 2 ^ 23

-- The packed number x gives each part back, and has 64 bits.
pub record Unpacked (p : Parts) (x : ℕ) : Type 0 where
  pub number : x % 256 ≡ p.number
  pub line : x / 256 % 256 ≡ p.line
  pub amount : x / 65536 % 2 ^ 24 ≡ p.amount
  pub holds : x / 2 ^ 40 % 2 ≡ cond p.holds 1 0
  pub judgements : x / 2 ^ 41 ≡ p.judgements
  pub small : x < 2 ^ 64
