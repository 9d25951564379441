-- The quick answer is that of judging the set, where the lists are those of an accepted text; and for any two lists what is said is there.
-- From the laws of looking a set up (`lookup`), what the calls answer and write, and the monotonicity of the verdict.
use Rattle.std.specs.Prelude.{ℕ, suc, ◌*◌, ◌^◌, ◌≤◌, ◌<◌, Bool, true, false, List, length, take, drop, replicate}
use Rattle.std.proofs.Math.Path.{◌≡◌, refl, ap}
use Rattle.std.proofs.Common.{sym, ◌∙◌, inl, inr, arith, drop-cons}
use Rattle.std.proofs.Math.Decide.{dec_lt}
use Rattle.std.proofs.lemmas.List.{length-replicate}
use Rattle.std.proofs.Math.Seq.{take_at}
use Rattle.sets.specs.Lists.{bytes_of, overwritten}
use Rattle.sets.specs.Laws.Lists.{length_bytes_of}
use Rattle.refusals.specs.Answers.{Accepted, Given, Answer}
use Rattle.semantics.specs.Meaning.{judge}
use Rattle.sorting.specs.declared.which.WhichList.{WhichList}
use Rattle.sorting.specs.declared.which.WhichList.TheVariants.{Cores, Cuts}
use Rattle.sorting.specs.Which.{listed}
use Rattle.lookup.specs.declared.answer.Suffices.{Suffices}
use Rattle.lookup.specs.Suffices.{suffices_answer, part_said, witness_of, SufficesTelling, by_answer, SaidOf}
use Rattle.lookup.specs.Laws.Suffices.{Ways, odd_way, inside_way, apart_way, unlisted_way, ways, said_of, answer_said}
use Rattle.lookup.specs.Laws.Lists.{held_said, broken_said}
use Rattle.calls.specs.declared.verdict.Verdict.TheVariants.{Holds, Broken}
use Rattle.calls.specs.Answers.{rules_in, system_in, judge_in, trace_in, list_in, text_outcome, judge_answer, list_bytes}
use Rattle.packing.specs.Packing.{InRange, accepted, refused, judge_parts, suffices_parts, witness_place, packed}
use Rattle.codremif.specs.Demand3.{in_rattle, for_hosts, GivesList}
use Rattle.codremif.specs.Suffices.{host_said, by_hosts, bytes_at, Witnessed, TextTelling, text_by_answers, text_by_hosts, WroteList, Agrees, QuickAnswer}
use Rattle.calls.proofs.Laws.Answers.{rules_most, judge_enough, verdict_broken}
use Rattle.calls.proofs.Laws.Sizes.{trace_le}
use Rattle.codremif.specs.Laws.Demand3.{monotone_in, by_call, list_given, list_packed}

-- ---- any two lists

two_taken : (list : List ℕ) (place : ℕ) → suc place < length list → take 2 (drop place list) ≡ bytes_at list place
unfolding bytes_at
two_taken list place h = rw (drop-cons list place 0 (omega arith), drop-cons list (suc place) 0 (omega arith))

module _ (S : ℕ) (cores cuts : List ℕ) where
  pub suffices_range : InRange (suffices_parts (suffices_answer S cores cuts))
  unfolding by_answer suffices_parts accepted refused
  suffices_range = go (ways S cores cuts)
    where
      go : {a : Answer Suffices} → Ways by_answer S cores cuts a → InRange (suffices_parts a)
      go (odd_way n e) = rw e (omega arith)
      go (inside_way v p s e) = rw e (omega arith)
      go (apart_way v n p s e) = rw e (omega arith)
      go (unlisted_way v n m e) = rw e (omega arith)

  host_ways : {a : Answer Suffices} → Ways by_answer S cores cuts a → Ways by_hosts S cores cuts (host_said a)
  unfolding by_answer by_hosts host_said suffices_parts accepted refused packed witness_place
  host_ways (odd_way n e) = odd_way n (ap host_said e)
  host_ways (inside_way v p s e) = inside_way v p s (ap host_said e)
  host_ways (apart_way v n p s e) = apart_way v n p s (ap host_said e)
  host_ways (unlisted_way v n m e) = unlisted_way v n m (ap host_said e)

  host_said_lem : SaidOf by_hosts S cores cuts (host_said (suffices_answer S cores cuts))
  unfolding by_hosts
  host_said_lem = said_of {code = λ x. x.suffices} {place = λ x. x.witness}
      (record { odd = refl; inside = λ p. refl; apart = λ p. refl; unlisted = refl; inside_at = λ p. refl; apart_at = λ p. refl })
      (host_ways (ways S cores cuts))

  the_witness : Witnessed S cores cuts
  unfolding witness_of part_said by_answer
  the_witness =
      let said = answer_said S cores cuts in
      record {
        inside = λ place e. ap (λ a. part_said a cores cuts) e ∙ two_taken cores place ((said.inside place).0 e).1.there.within;
        apart = λ place e. ap (λ a. part_said a cores cuts) e ∙ two_taken cuts place ((said.apart place).0 e).2.there.within;
        unlisted = λ e. ap (λ a. part_said a cores cuts) e;
        refused = λ e. ap (λ a. part_said a cores cuts) e;
      }

-- ---- the lists of a text

-- A set that is judged to hold has a core inside, one that is judged broken a cut apart, and no set is judged both.
module _ {J L M A : Type 0} (w : TextTelling J L M) (t : SufficesTelling A) (text : List ℕ) (S : ℕ) (answer : A)
    (judged-once : (n : ℕ) → n ≤ 128 → ¬ (w.calls.holds ≡ w.broken n)) (said-once : (p q : ℕ) → ¬ (t.inside p ≡ t.apart q)) where
  abbrev InsideSaid : Type 0
  InsideSaid = (place : ℕ) × (answer ≡ t.inside place)

  abbrev ApartSaid : Type 0
  ApartSaid = (place : ℕ) × (answer ≡ t.apart place)

  abbrev JudgedHeld : Type 0
  JudgedHeld = (lent : List ℕ) → w.calls.judge text S lent ≡ w.calls.holds

  abbrev JudgedBroken : Type 0
  JudgedBroken = (lent : List ℕ) → 128 ≤ length lent → (n : ℕ) × (n ≤ 128) × (w.calls.judge text S lent ≡ w.broken n)

  not_both : JudgedHeld → JudgedBroken → ⊥
  not_both held broken =
      let lent : List ℕ = replicate 128 0 in
      let b = broken lent (omega (arith, length-replicate {A = ℕ} 128 0)) in
      judged-once b.0 b.1 (sym (held lent) ∙ b.2)

  agreed : (b : Bool) → (b ≡ true → InsideSaid × JudgedHeld) → (b ≡ false → ApartSaid × JudgedBroken) → Agrees w t text S answer
  agreed true held broken =
      let h = held refl in
      record {
        listed = inl h.0;
        inside = (λ _. h.1, λ _. h.0);
        apart = (λ a. absurd (said-once h.0.0 a.0 (sym h.0.1 ∙ a.1)), λ b. absurd (not_both h.1 b));
      }
  agreed false held broken =
      let b = broken refl in
      record {
        listed = inr b.0;
        inside = (λ i. absurd (said-once i.0 b.0.0 (sym i.1 ∙ b.0.1)), λ h. absurd (not_both h b.1));
        apart = (λ _. b.1, λ _. b.0);
      }

module _ (text : List ℕ) (model : text_outcome text ≡ Accepted) where
  -- The front of what was lent, once a list of so many sets is written over it.
  front_is : (which : WhichList) (lent : List ℕ) (sets : ℕ) → sets ≡ length (list_in which text)
      → list_bytes which text lent ≡ overwritten (bytes_of (list_in which text)) lent → take (2 * sets) (list_bytes which text lent) ≡ bytes_of (list_in which text)
  unfolding overwritten
  front_is which lent sets e q =
      ap (take (2 * sets)) q ∙ take_at (bytes_of (list_in which text)) _ (2 * sets) (omega (arith, e, length_bytes_of (list_in which text)))

  -- Where counts are told apart from each other and from a list that does not fit, what a call wrote is the list.
  wrote : {J L M : Type 0} (w : TextTelling J L M)
      → ((which : WhichList) (lent : List ℕ) → GivesList w.calls (list_in which text) lent (w.list which text lent) (list_bytes which text lent))
      → ((n m : ℕ) → w.calls.count n ≡ w.calls.count m → n ≡ m) → ((n : ℕ) → ¬ (w.calls.short ≡ w.calls.count n))
      → (which : WhichList) (list : List ℕ) → WroteList w which text list → list ≡ bytes_of (list_in which text)
  wrote w gives same other which list r = go (dec_lt (length r.lent) (2 * length (list_in which text)))
    where
      go : Dec (length r.lent < 2 * length (list_in which text)) → list ≡ bytes_of (list_in which text)
      go (no n) =
          let h : 2 * length (list_in which text) ≤ length r.lent = omega arith in
          let g = gives which r.lent in
          r.front ∙ front_is which r.lent r.sets (same _ _ (sym r.counted ∙ g.count h)) (g.written h)
      go (yes h) = absurd (other r.sets (sym ((gives which r.lent).refused h) ∙ r.counted))

  pub answer_wrote : (which : WhichList) (list : List ℕ) → WroteList text_by_answers which text list → list ≡ bytes_of (list_in which text)
  unfolding text_by_answers in_rattle
  answer_wrote = wrote text_by_answers (list_given text model) (λ n m e. cc) (λ n e. cc)

  pub host_wrote : (which : WhichList) (list : List ℕ) → WroteList text_by_hosts which text list → list ≡ bytes_of (list_in which text)
  unfolding text_by_hosts for_hosts
  host_wrote = wrote text_by_hosts (list_packed text model) (λ n m e. omega arith) (λ n e. omega arith)

  module _ (S : ℕ) (rules : S < 2 ^ rules_in text) where
    held_judged : judge_in text S ≡ true → (lent : List ℕ) → judge_answer text S lent ≡ Given Holds
    held_judged e lent = (by_call text model S rules lent).0 e

    pub broken_judged : judge_in text S ≡ false → (lent : List ℕ) → 128 ≤ length lent → (n : ℕ) × (n ≤ 128) × (judge_answer text S lent ≡ Given (Broken n))
    unfolding judge_in judge system_in trace_in
    broken_judged e lent h =
        (length (trace_in text S), trace_le text S, (judge_enough text model S lent rules (omega (arith, trace_le text S))).says ∙ ap Given (verdict_broken (system_in text S) e))

    said_held : {A : Type 0} (t : SufficesTelling A) {answer : A} → SaidOf t S (bytes_of (list_in Cores text)) (bytes_of (list_in Cuts text)) answer
        → judge_in text S ≡ true → (place : ℕ) × (answer ≡ t.inside place)
    unfolding list_in listed
    said_held t said = held_said (rules_in text) (judge_in text) (rules_most text) (monotone_in text) S rules said

    said_broken : {A : Type 0} (t : SufficesTelling A) {answer : A} → SaidOf t S (bytes_of (list_in Cores text)) (bytes_of (list_in Cuts text)) answer
        → judge_in text S ≡ false → (place : ℕ) × (answer ≡ t.apart place)
    unfolding list_in listed
    said_broken t said = broken_said (rules_in text) (judge_in text) (rules_most text) (monotone_in text) S rules said

    calls_agree : (cores cuts : List ℕ) → WroteList text_by_answers Cores text cores → WroteList text_by_answers Cuts text cuts
        → Agrees text_by_answers by_answer text S (suffices_answer S cores cuts)
    unfolding text_by_answers in_rattle by_answer
    calls_agree cores cuts a b =
        rw (answer_wrote Cores cores a, answer_wrote Cuts cuts b)
        (let said = answer_said S (bytes_of (list_in Cores text)) (bytes_of (list_in Cuts text)) in
        agreed text_by_answers by_answer text S _
        (λ n l e. cc)
        (λ p q e. let z : ◌≡◌ {A = ℕ} 0 1 = cc in omega arith)
        (judge_in text S)
        (λ e. (said_held by_answer said e, held_judged e))
        (λ e. (said_broken by_answer said e, broken_judged e)))

    hosts_agree : (cores cuts : List ℕ) → WroteList text_by_hosts Cores text cores → WroteList text_by_hosts Cuts text cuts
        → Agrees text_by_hosts by_hosts text S (host_said (suffices_answer S cores cuts))
    unfolding text_by_hosts for_hosts by_hosts packed judge_parts accepted
    hosts_agree cores cuts a b =
        rw (host_wrote Cores cores a, host_wrote Cuts cuts b)
        (let said = host_said_lem S (bytes_of (list_in Cores text)) (bytes_of (list_in Cuts text)) in
        agreed text_by_hosts by_hosts text S _
        (λ n l e. omega arith)
        (λ p q e. omega (arith, ap (λ x. x.suffices) e))
        (judge_in text S)
        (λ e. (said_held by_hosts said e, λ lent. ap (λ x. packed (judge_parts x)) (held_judged e lent)))
        (λ e. (
          said_broken by_hosts said e,
          λ lent h. let j = broken_judged e lent h in (j.0, j.1, ap (λ x. packed (judge_parts x)) j.2 ∙ omega arith),
        )))

-- ---- all of it

pub the_quick_answer : QuickAnswer
the_quick_answer = record {
  said = answer_said;
  said_to_hosts = host_said_lem;
  witnessed = the_witness;
  agrees = calls_agree;
  agrees_for_hosts = hosts_agree;
}
