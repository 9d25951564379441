-- `sets::words::below`: the parts of a set are the sets that have none of the rules that it lacks. From the law of sets apart.
use Rattle.std.proofs.Common.{ℕ, ◌-◌, ◌<◌, ◌≡◌, ◌∙◌, ap, not, arith, rules}
use Rattle.std.proofs.lemmas.Nat.{and_comm}
use Rattle.sets.specs.Bit.{has}
use Rattle.sets.specs.Sets.{part, apart}
use Rattle.sets.specs.Laws.Sets.{apart_part}
use Rattle.sets.specs.Gathered.{set_of}
use Rattle.sets.specs.Laws.Gathered.{set_of_same, set_of_lt, has_set_of, not_set_of}
use Rattle.sets.proofs.Passing.{apart_fits}
use Rattle.sets.proofs.words.below.Goals as goal

none_lacked : (S T : ℕ) → S < 64 → T < 64 → apart (63 - S) T ≡ part T S
unfolding apart
none_lacked S T h l =
    let back : 63 - (63 - S) ≡ S = omega arith in
    rw (and_comm (63 - S) T) (apart_part 6 T (63 - S) l (omega arith) ∙ ap (part T) back)

-- the numbers that lack rule i, from those that have it
lacking : (i : ℕ) {word : ℕ} → word ≡ set_of 64 (λ t. has t i) → 18446744073709551615 - word ≡ set_of 64 (λ t. not (has t i))
lacking i e =
    rw e
    (not_set_of 64 (set_of 64 (λ t. has t i)) (set_of_lt 64 (λ t. has t i))
    ∙ set_of_same 64 _ _ (λ t l. ap not (has_set_of 64 (λ t. has t i) t l)))

pub returns : goal.returns
returns c =
    c.agreeing.ensures (λ i t. not (has t i)) (λ i bits p. search (rules, lacking))
    ∙ set_of_same 64 _ _ (λ t l. apart_fits (63 - c.args.set) (omega arith) t ∙ none_lacked c.args.set t c.requires l)
