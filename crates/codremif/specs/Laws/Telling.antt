-- How the calls in Rattle and the exported ones tell their answers: that a set holds or is broken, and which list was written.
-- From what a host reads off a packed answer. Assumes nothing.
use Rattle.std.specs.Prelude.{ℕ, ◌*◌, ◌≤◌, ◌≡◌, refl, ◌↔◌, List}
use Rattle.std.proofs.Common.{sym, ap, ◌∙◌, arith}
use Rattle.sets.specs.Lists.{bytes_of}
use Rattle.refusals.specs.Answers.{Accepted, Answer, Given, RefusedBy}
use Rattle.sorting.specs.declared.which.WhichList.{WhichList}
use Rattle.calls.specs.declared.verdict.Verdict.{Verdict}
use Rattle.calls.specs.declared.verdict.Verdict.TheVariants.{Holds, Broken}
use Rattle.calls.specs.Answers.{system_in, judge_in, list_in, text_outcome, verdict_of, judge_answer}
use Rattle.calls.proofs.Laws.Answers.{given_accepted}
use Rattle.packing.specs.Packing.{accepted, refused, parts_by, verdict_parts, judge_parts, packed}
use Rattle.codremif.specs.Demand3.{in_rattle, for_hosts, Judges}
use Rattle.codremif.specs.Suffices.{TextTelling, text_by_answers, text_by_hosts, WroteList}
use Rattle.codremif.specs.Laws.Host.{judge_reads}
use Rattle.codremif.specs.Laws.Demand3.{judges_in, judges_packed}
use Rattle.codremif.specs.Laws.Suffices.{answer_wrote, host_wrote}

-- What theorems about a text need of how calls tell their answers.
pub record Tells {J L M : Type 0} (w : TextTelling J L M) : Type 0 where
  pub judges : (text : List ℕ) → text_outcome text ≡ Accepted → Judges w.calls text (judge_in text)
  pub broken : (text : List ℕ) (S : ℕ) (lent : List ℕ) (n : ℕ) → n ≤ 128 → (w.calls.judge text S lent ≡ w.broken n) ↔ (judge_answer text S lent ≡ Given (Broken n))
  pub wrote : (text : List ℕ) → text_outcome text ≡ Accepted → (which : WhichList) (list : List ℕ) → WroteList w which text list → list ≡ bytes_of (list_in which text)

pub answers_tell : Tells text_by_answers
unfolding text_by_answers in_rattle
answers_tell = record {
  judges = judges_in;
  broken = λ text S lent n _. (λ e. e, λ e. e);
  wrote = answer_wrote;
}

-- A refusal has a number other than 0.
refused_some : (text : List ℕ) (S : ℕ) (lent : List ℕ) {number line : ℕ} → judge_answer text S lent ≡ RefusedBy number line → number ≡ 0 → ⊥
unfolding judge_answer judge_parts parts_by refused
refused_some text S lent {number} {line} q z =
    let accepted = (judge_reads text S lent).zero.0 (ap (λ a. (judge_parts a).number) q ∙ z) in
    let e = sym (given_accepted (verdict_of (system_in text S)) accepted) ∙ q in cc

-- A packed answer of so many times 65,536 is that of a trace of so many states.
broken_packed : (text : List ℕ) (S : ℕ) (lent : List ℕ) (n : ℕ) → n ≤ 128
    → (packed (judge_parts (judge_answer text S lent)) ≡ 65536 * n) ↔ (judge_answer text S lent ≡ Given (Broken n))
unfolding packed judge_parts parts_by verdict_parts accepted refused
broken_packed text S lent n h = (go (judge_answer text S lent) refl, λ e. ap (λ a. packed (judge_parts a)) e ∙ omega arith)
  where
    go : (a : Answer Verdict) → judge_answer text S lent ≡ a → packed (judge_parts a) ≡ 65536 * n → a ≡ Given (Broken n)
    go (Given Holds) q e = absurd (omega arith)
    go (Given (Broken m)) q e = ap (λ k. Given (Broken k)) (omega arith)
    go (RefusedBy number line) q e =
        let r = (judge_reads text S lent).range in
        let few = ap (λ a. (judge_parts a).number) q in
        let short = ap (λ a. (judge_parts a).line) q in
        absurd (refused_some text S lent q (omega (arith, r.number, r.line)))

pub hosts_tell : Tells text_by_hosts
unfolding text_by_hosts for_hosts
hosts_tell = record {
  judges = judges_packed;
  broken = broken_packed;
  wrote = host_wrote;
}
