-- How large what the calls give can be: a trace has at most 128 states, the pairs tried are at most 128 * 128, a list at most 2^16 sets, and the rules of a kind
-- are some of the model's. From the ranges of what is read from a text.
use Rattle.std.specs.Prelude.{ℕ, zero, suc, ◌*◌, ◌^◌, ◌≤◌, ◌<◌, Bool, true, false, List, length}
use Rattle.std.proofs.Common.{suc-mul, mul-le-mul, arith, length-append, pow_mono}
use Rattle.sets.specs.Lists.{joined, one_if, select, list_of, cores_of, cuts_of}
use Rattle.sets.specs.Laws.Growth.{length_list_of}
use Rattle.sets.proofs.Laws.Must.{must_below}
use Rattle.sets.proofs.Laws.Kinds.{may_below, irrelevant_below}
use Rattle.systems.specs.Verdict.{trace_of}
use Rattle.systems.specs.Judged.{judged}
use Rattle.searches.proofs.Laws.Collecting.{search_pairs}
use Rattle.semantics.specs.Meaning.{system_of}
use Rattle.sorting.specs.declared.which.WhichList.{WhichList}
use Rattle.sorting.specs.declared.which.WhichList.TheVariants.{Cores, Cuts}
use Rattle.sorting.specs.Which.{listed, of_kind}
use Rattle.sorting.specs.declared.kinds.Kind.{Kind}
use Rattle.sorting.specs.declared.kinds.Kind.TheVariants.{Must, May, Irrelevant}
use Rattle.calls.specs.Answers.{rules_in, system_in, judge_in, trace_in, pairs_in, list_in, kind_in}
use Rattle.calls.proofs.Laws.Answers.{vars_most, rules_most}

pub trace_le : (text : List ℕ) (S : ℕ) → length (trace_in text S) ≤ 128
unfolding trace_in system_in system_of
trace_le text S =
    let h : length (trace_of (system_in text S)) ≤ (system_in text S).size = (judged (system_in text S)).at_most_size in
    omega (arith, pow_mono (vars_most text))

pub pairs_le : (text : List ℕ) (S : ℕ) → pairs_in text S ≤ 16384
unfolding pairs_in system_in system_of
pairs_le text S =
    let n : ℕ = (system_in text S).size in
    let few : n ≤ 128 = omega (arith, pow_mono (vars_most text)) in
    omega (arith, search_pairs (system_in text S), mul-le-mul few few)

joined_length : (g : ℕ → List ℕ) (most : ℕ) → ((k : ℕ) → length (g k) ≤ most) → (n : ℕ) → length (joined g n) ≤ n * most
unfolding joined
joined_length g most h zero = omega arith
joined_length g most h (suc n) =
    omega (arith, joined_length g most h n, h n, length-append (joined g n) (g n), suc-mul n most)

pub select_length : (q : ℕ → Bool) (n : ℕ) → length (select q n) ≤ n
unfolding select
select_length q n = omega (arith, joined_length (λ S. one_if (q S) S) 1 (λ S. at_most (q S) S) n)
  where
    at_most : (b : Bool) (S : ℕ) → length (one_if b S) ≤ 1
    at_most true S = omega arith
    at_most false S = omega arith

list_length : (R : ℕ) (q : ℕ → Bool) → R ≤ 16 → length (list_of R q) ≤ 65536
list_length R q h = omega (arith, length_list_of R q, select_length q (2 ^ R), pow_mono h)

pub list_le : (which : WhichList) (text : List ℕ) → length (list_in which text) ≤ 65536
unfolding list_in listed cores_of cuts_of
list_le Cores text = list_length (rules_in text) _ (rules_most text)
list_le Cuts text = list_length (rules_in text) _ (rules_most text)

pub kind_lt : (kind : Kind) (text : List ℕ) → kind_in kind text < 2 ^ rules_in text
unfolding kind_in of_kind
kind_lt Must text = must_below (rules_in text) (judge_in text)
kind_lt May text = may_below (rules_in text) (judge_in text)
kind_lt Irrelevant text = irrelevant_below (rules_in text) (judge_in text)
