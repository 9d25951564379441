-- What each call answers fits its places in the packed number, said of any answer that is known to be the call's. From `specs/Laws/Host` and
-- `specs/Laws/Suffices`. Assumes nothing.
use Rattle.std.specs.Prelude.{ℕ, ◌≡◌, List}
use Rattle.refusals.specs.Answers.{Answer}
use Rattle.sets.specs.declared.one_core.OneCore.{OneCore}
use Rattle.logs.specs.declared.blame.Blamed.{Blamed}
use Rattle.lookup.specs.declared.answer.Suffices.{Suffices}
use Rattle.lookup.specs.Suffices.{suffices_answer}
use Rattle.sorting.specs.declared.which.WhichList.{WhichList}
use Rattle.sorting.specs.declared.kinds.Kind.{Kind}
use Rattle.calls.specs.declared.verdict.Verdict.{Verdict}
use Rattle.calls.specs.Answers.{judge_answer, reached_answer, list_answer, kind_answer}
use Rattle.preferences.specs.Answer.{one_core_answer}
use Rattle.blaming.specs.Answer.{blame_answer}
use Rattle.packing.specs.Packing.{InRange, parts_by, verdict_parts, judge_parts, number_parts, reached_parts, list_parts, set_parts, found_parts, one_core_parts, blamed_parts, blame_parts, said_parts, suffices_parts}
use Rattle.codremif.specs.Laws.Host.{judge_reads, reached_reads, list_reads, kind_reads, one_core_reads, blame_reads}
use Rattle.codremif.specs.Laws.Suffices.{suffices_range}

pub judge_fits : (text : List ℕ) (S : ℕ) (lent : List ℕ) (a : Answer Verdict) → a ≡ judge_answer text S lent → InRange (parts_by verdict_parts a)
unfolding judge_parts
judge_fits text S lent a e = rw e (judge_reads text S lent).range

pub reached_fits : (text : List ℕ) (S : ℕ) (lent : List ℕ) (a : Answer ℕ) → a ≡ reached_answer text S lent → InRange (parts_by number_parts a)
unfolding reached_parts
reached_fits text S lent a e = rw e (reached_reads text S lent).range

pub list_fits : (which : WhichList) (text lent : List ℕ) (a : Answer ℕ) → a ≡ list_answer which text lent → InRange (parts_by number_parts a)
unfolding list_parts
list_fits which text lent a e = rw e (list_reads which text lent).range

pub kind_fits : (kind : Kind) (text : List ℕ) (a : Answer ℕ) → a ≡ kind_answer kind text → InRange (parts_by number_parts a)
unfolding set_parts
kind_fits kind text a e = rw e (kind_reads kind text).range

pub one_core_answer_fits : (text order : List ℕ) (a : Answer OneCore) → a ≡ one_core_answer text order → InRange (parts_by found_parts a)
unfolding one_core_parts
one_core_answer_fits text order a e = rw e (one_core_reads text order).range

pub blame_answer_fits : (text log : List ℕ) (a : Answer Blamed) → a ≡ blame_answer text log → InRange (parts_by blamed_parts a)
unfolding blame_parts
blame_answer_fits text log a e = rw e (blame_reads text log).range

pub suffices_fits : (S : ℕ) (cores cuts : List ℕ) (a : Answer Suffices) → a ≡ suffices_answer S cores cuts → InRange (parts_by said_parts a)
unfolding suffices_parts
suffices_fits S cores cuts a e = rw e (suffices_range S cores cuts)

pub ruleset ranges = (judge_fits, reached_fits, list_fits, kind_fits, one_core_answer_fits, blame_answer_fits, suffices_fits)
