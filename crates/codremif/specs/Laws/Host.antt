-- What a C host can read from the one number that a call gives it: every part of the answer, and by number 0 whether the call was accepted.
-- From how large the parts can be: a trace has at most 128 states, at most 128 * 128 pairs are tried, a list has at most 2^16 sets, a set of rules is
-- below 2^16, at most 17 judgements are made to find one core; and from one bound on the numbers and lines of refusals, below 256. Assumes nothing.
use Rattle.packing.specs.declared.parts.Parts.{Parts}
use Rattle.std.specs.Prelude.{ℕ, ◌^◌, ◌≤◌, ◌<◌, ◌≡◌, refl, ◌↔◌, Bool, true, false, not, cond, List, leb, ltb, length, get_or, Option, Some, None, IfSome}
use Rattle.std.specs.Option.{is_none}
use Rattle.std.proofs.Common.{arith, pow_mono}
use Rattle.sets.specs.Lists.{bytes_of}
use Rattle.sets.specs.Orders.{is_order}
use Rattle.refusals.specs.Answers.{Accepted, Outcome, Refused, outcome_of}
use Rattle.models.specs.Reading.{read_model}
use Rattle.models.proofs.Laws.Ranges.{Refusal, ranges}
use Rattle.models.specs.Written.{model_in}
use Rattle.systems.specs.Verdict.{holds, trace_of}
use Rattle.logs.specs.Log.{is_log}
use Rattle.semantics.specs.Meaning.{init_met}
use Rattle.sorting.specs.declared.which.WhichList.{WhichList}
use Rattle.sorting.specs.declared.kinds.Kind.{Kind}
use Rattle.calls.specs.declared.verdict.Verdict.TheVariants.{Holds, Broken}
use Rattle.calls.specs.Answers.{rules_in, states_in, system_in, trace_in, marks_in, pairs_in, list_in, kind_in, ◌or_else◌, refused_if, text_outcome, read_outcome, asked_outcome, judge_outcome, reached_outcome, list_outcome, given, verdict_of, judge_answer, reached_answer, list_answer, kind_answer}
use Rattle.preferences.specs.Answer.{order_outcome, one_core_outcome, one_core_in, one_core_answer}
use Rattle.preferences.proofs.Laws.Answer.{one_core_fits}
use Rattle.blaming.specs.Answer.{blame_in, log_outcome, init_outcome, blame_outcome, blame_answer}
use Rattle.blaming.proofs.Laws.Answer.{blame_fits}
use Rattle.packing.specs.Packing.{InRange, counted, accepted, refused, parts_by, verdict_parts, number_parts, core_parts, found_parts, blamed_parts, judge_parts, reached_parts, list_parts, set_parts, one_core_parts, blame_parts, packed, Unpacked}
use Rattle.calls.proofs.Laws.Answers.{rules_most}
use Rattle.calls.proofs.Laws.Sizes.{trace_le, pairs_le, list_le, kind_lt}
use Rattle.packing.specs.Laws.Packing.{unpacked}

-- ---- the numbers and lines of refusals

-- No refusal, or one with a number from 1 on, and both the number and the line below 256.
data Numbered : Outcome → Type 0 where
  none : Numbered Accepted
  one : {number line : ℕ} → 1 ≤ number → number < 256 → line < 256 → Numbered (Refused number line)

text_numbered : (text : List ℕ) → Numbered (text_outcome text)
unfolding text_outcome
text_numbered text = go (outcome_of (read_model text)) refl
  where
    go : (o : Outcome) → outcome_of (read_model text) ≡ o → Numbered o
    go Accepted e = none
    go (Refused number line) e =
        let r : Refusal number line = (ranges text).refusal number line e in
        one {number = number} {line = line} r.least (omega (arith, r.most)) (omega (arith, r.last_line))

refused_if_numbered : (b : Bool) (number : ℕ) → 1 ≤ number → number < 256 → Numbered (refused_if b number)
unfolding refused_if
refused_if_numbered true number l h = one {line = 0} l h (omega arith)
refused_if_numbered false number l h = none

or_else_numbered : {o next : Outcome} → Numbered o → Numbered next → Numbered (o or_else next)
unfolding ◌or_else◌
or_else_numbered none n = n
or_else_numbered (one l h g) n = one l h g

asked_numbered : (text : List ℕ) (S : ℕ) (new lent : List ℕ) → Numbered (asked_outcome text S new lent)
unfolding asked_outcome read_outcome
asked_numbered text S new lent =
    or_else_numbered
    (or_else_numbered (text_numbered text) (refused_if_numbered (leb (2 ^ rules_in text) S) 10 (omega arith) (omega arith)))
    (refused_if_numbered (ltb (length lent) (length new)) 11 (omega arith) (omega arith))

list_numbered : (which : WhichList) (text lent : List ℕ) → Numbered (list_outcome which text lent)
unfolding list_outcome
list_numbered which text lent =
    or_else_numbered (text_numbered text)
    (refused_if_numbered (ltb (length lent) (length (bytes_of (list_in which text)))) 11 (omega arith) (omega arith))

one_core_numbered : (text order : List ℕ) → Numbered (one_core_outcome text order)
unfolding one_core_outcome order_outcome
one_core_numbered text order = or_else_numbered (text_numbered text) (refused_if_numbered (not (is_order (rules_in text) order)) 13 (omega arith) (omega arith))

blame_numbered : (text log : List ℕ) → Numbered (blame_outcome text log)
unfolding blame_outcome log_outcome init_outcome
blame_numbered text log =
    or_else_numbered (text_numbered text)
    (or_else_numbered (refused_if_numbered (not (is_log (states_in text) log)) 14 (omega arith) (omega arith))
    (refused_if_numbered (not (init_met (model_in text) (get_or log 0 0))) 15 (omega arith) (omega arith)))

-- ---- what the host reads

-- The parts p of an answer whose call has the outcome o: number 0 exactly if the call is accepted, each part fits its place, and so the packed
-- number gives each part back.
pub record HostReads (o : Outcome) (p : Parts) : Type 0 where
  pub zero : (p.number ≡ 0) ↔ (o ≡ Accepted)
  pub range : InRange p
  pub parts : Unpacked p (packed p)

refused_reads : (number line : ℕ) → 1 ≤ number → number < 256 → line < 256 → HostReads (Refused number line) (refused number line)
unfolding refused
refused_reads number line l h g = record {
  zero = (λ e. absurd (omega arith), λ e. cc);
  range = omega arith;
  parts = unpacked (refused number line) (omega arith);
}

counted_reads : (amount : ℕ) (b : Bool) (judgements : ℕ) → amount < 2 ^ 24 → judgements < 2 ^ 23 → HostReads Accepted (counted amount b judgements)
unfolding counted
counted_reads amount b judgements h j =
    record { zero = (λ _. refl, λ _. refl); range = omega arith; parts = unpacked (counted amount b judgements) (omega arith) }

accepted_reads : (amount : ℕ) (b : Bool) → amount < 2 ^ 24 → HostReads Accepted (accepted amount b)
unfolding accepted
accepted_reads amount b h = counted_reads amount b 0 h (omega arith)

-- For every call: the parts of a refusal are its number and line, and those of the answer fit where it is accepted.
given_reads : {A : Type 0} (parts : A → Parts) (a : A) {o : Outcome} → (o ≡ Accepted → HostReads Accepted (parts a)) → Numbered o → HostReads o (parts_by parts (given o a))
unfolding parts_by given
given_reads parts a reads none = reads refl
given_reads parts a reads (one {number} {line} l h g) = refused_reads number line l h g

-- a number that is counted
number_reads : (n : ℕ) → n < 2 ^ 24 → HostReads Accepted (number_parts n)
unfolding number_parts
number_reads n h = accepted_reads n false h

pub judge_reads : (text : List ℕ) (S : ℕ) (lent : List ℕ) → HostReads (judge_outcome text S lent) (judge_parts (judge_answer text S lent))
unfolding judge_answer judge_outcome judge_parts verdict_parts verdict_of trace_in
judge_reads text S lent = given_reads verdict_parts _ (λ _. go (holds (system_in text S))) (asked_numbered text S (trace_in text S) lent)
  where
    go : (b : Bool) → HostReads Accepted (verdict_parts (cond b Holds (Broken (length (trace_of (system_in text S))))))
    go true = accepted_reads 0 true (omega arith)
    go false = accepted_reads (length (trace_of (system_in text S))) false (omega (arith, trace_le text S))

pub reached_reads : (text : List ℕ) (S : ℕ) (lent : List ℕ) → HostReads (reached_outcome text S lent) (reached_parts (reached_answer text S lent))
unfolding reached_answer reached_outcome reached_parts
reached_reads text S lent = given_reads number_parts _ (λ _. number_reads (pairs_in text S) (omega (arith, pairs_le text S))) (asked_numbered text S (marks_in text S) lent)

pub list_reads : (which : WhichList) (text lent : List ℕ) → HostReads (list_outcome which text lent) (list_parts (list_answer which text lent))
unfolding list_answer list_parts
list_reads which text lent = given_reads number_parts _ (λ _. number_reads (length (list_in which text)) (omega (arith, list_le which text))) (list_numbered which text lent)

pub kind_reads : (kind : Kind) (text : List ℕ) → HostReads (text_outcome text) (set_parts (kind_answer kind text))
unfolding kind_answer set_parts
kind_reads kind text = given_reads number_parts _ (λ _. number_reads (kind_in kind text) (omega (arith, kind_lt kind text, pow_mono (rules_most text)))) (text_numbered text)

pub one_core_reads : (text order : List ℕ) → HostReads (one_core_outcome text order) (one_core_parts (one_core_answer text order))
unfolding one_core_answer one_core_parts found_parts core_parts
one_core_reads text order =
    given_reads found_parts _ (λ e. let f = one_core_fits text order e in go (one_core_in text order).core f.0 f.1) (one_core_numbered text order)
  where
    go : (core : Option ℕ) → IfSome core (λ C. C < 65536) → {judgements : ℕ} → judgements ≤ 17 → HostReads Accepted (core_parts core judgements)
    go (Some C) s j = counted_reads C true _ (omega arith) (omega arith)
    go None s j = counted_reads 0 false _ (omega arith) (omega arith)

pub blame_reads : (text log : List ℕ) → HostReads (blame_outcome text log) (blame_parts (blame_answer text log))
unfolding blame_answer blame_parts blamed_parts
blame_reads text log =
    given_reads blamed_parts _ (λ _. accepted_reads (blame_in text log).set (is_none (blame_in text log).breach) (omega (arith, blame_fits text log))) (blame_numbered text log)
