-- What a model that is changed in its rules means: with only some of its rules, a set has the verdict that it had by its old numbers; and where
-- a rule is not in the judged set, replacing its parts leaves the verdict as it was, so that all rules hold with a rule outside MUST replaced.
-- From the start states and the steps of a model, from systems that agree having the same verdict, and from MUST by one verdict for each rule.
use Rattle.std.specs.Prelude.{ℕ, ◌^◌, ◌<◌, ◌≡◌, Bool, false, ◌&&◌, ◌||◌, List, length}
use Rattle.std.proofs.Math.Path.{refl, sym, ap, ap₂, fun_ext}
use Rattle.std.proofs.Common.{◌∙◌}
use Rattle.std.proofs.Math.Bool.{true, not, true≢false}
use Rattle.std.proofs.Math.Option.{Option, none, some}
use Rattle.std.proofs.Math.Pow.{ones_lt}
use Rattle.sets.specs.Bit.{has, full}
use Rattle.sets.specs.Sets.{without}
use Rattle.sets.specs.Laws.Sets.{has_without, without_part}
use Rattle.sets.specs.Laws.Cores.{false_if}
use Rattle.sets.specs.Lists.{must_of}
use Rattle.sets.proofs.Laws.MustRules.{spared}
use Rattle.sets.specs.Laws.Choice.{alike}
use Rattle.sets.specs.Kept.{kept}
use Rattle.sets.specs.Renumbered.{spread, all_in}
use Rattle.sets.specs.Laws.Kept.{all_in_kept, all_in_iff}
use Rattle.exprs.specs.Expr.{Expr, value}
use Rattle.lines.specs.Written.{Rule}
use Rattle.models.specs.Written.{Described, rule_at}
use Rattle.models.specs.Changed.{keeping, replacing, or_one, start_written_out, starts_written_out}
use Rattle.models.proofs.Laws.Changed.{length_replacing, other_rule, length_written_out, rule_written_out}
use Rattle.systems.specs.Laws.Compare.{Same, same_holds}
use Rattle.semantics.specs.Meaning.{every_in, init_met, start_part_met, start_met, start_of, property_met, bad_of, step_met, step_of, system_of, judge}
use Rattle.semantics.proofs.Laws.Meaning.{every_same, every_in_iff, judge_monotone}

-- A test that each rule of a set passes, of two lists of rules and a set of each, does the same for both.
SameTests : (rules : List Rule) (S : ℕ) (others : List Rule) (T : ℕ) → Type 0
SameTests rules S others T = (f : Rule → Bool) → all_in f S rules ≡ all_in f T others

-- Each rule of a set passes a test: by the places of the rules, and by the rules themselves.
every_in_all : (f : Rule → Bool) (rules : List Rule) (S : ℕ) → every_in (length rules) S (λ i. f (rule_at rules i)) ≡ all_in f S rules
every_in_all f rules S =
    let n : ℕ = length rules in
    let test : ℕ → Bool = λ i. f (rule_at rules i) in
    let places = all_in_iff f _ S rules in
    alike (every_in n S test) (all_in f S rules) (λ g. places.1 ((every_in_iff n S test).0 g)) (λ g. (every_in_iff n S test).1 (places.0 g))

-- With other rules but the same tests a set has the same verdict.
module _ (M : Described) (rules : List Rule) (S T : ℕ) (same : SameTests rules S M.rules T) where
  abbrev other : Described
  other = record { vars = M.vars; init = M.init; props = M.props; rules = rules }

  same_every : (f : Rule → Bool) → every_in (length rules) S (λ i. f (rule_at rules i)) ≡ every_in (length M.rules) T (λ i. f (rule_at M.rules i))
  unfolding SameTests
  same_every f = every_in_all f rules S ∙ same f ∙ sym (every_in_all f M.rules T)

  same_tests : judge other S ≡ judge M T
  unfolding judge system_of start_of init_met start_met step_of step_met bad_of
  same_tests =
      let e : Same (system_of other S) (system_of M T) = record {
        size = refl;
        start = λ s _. ap (λ b. init_met M s && b) (same_every (λ r. start_part_met r.start s));
        step = λ s t _ _. same_every (λ r. value r.step s t);
        bad = λ s _. refl;
      } in
      same_holds e

-- ---- some rules are left out

-- A set of the rules of U has the verdict that it had by its old numbers.
pub judge_keeping : (U : ℕ) (M : Described) (S : ℕ) → judge (keeping U M) S ≡ judge M (spread (length M.rules) U S)
unfolding keeping SameTests
judge_keeping U M S = same_tests M (kept U M.rules) S (spread (length M.rules) U S) (λ f. all_in_kept f U S M.rules)

-- ---- the parts of one rule are replaced

module _ (i : ℕ) (step : Expr) (start : Option Expr) (M : Described) (S : ℕ) (lacks : has S i ≡ false) where
  replaced_tests : SameTests (replacing i step start M).rules S M.rules S
  unfolding SameTests
  replaced_tests f =
      let old = all_in_iff f _ S M.rules in
      let new = all_in_iff f _ S (replacing i step start M).rules in
      alike (all_in f S (replacing i step start M).rules) (all_in f S M.rules)
      (λ g. old.1 (λ j h m. ap f (sym (other j m)) ∙ new.0 g j (rw length_replacing h) m))
      (λ g. new.1 (λ j h m. ap f (other j m) ∙ old.0 g j (rw length_replacing at h) m))
    where
      other : (j : ℕ) → has S j ≡ true → rule_at (replacing i step start M).rules j ≡ rule_at M.rules j
      other j m = other_rule i step start M j (λ q. true≢false (sym m ∙ ap (has S) q ∙ lacks))

  -- A set without rule i has the verdict that it had.
  pub judge_replacing : judge (replacing i step start M) S ≡ judge M S
  unfolding replacing
  judge_replacing = same_tests M (replacing i step start M).rules S S replaced_tests

-- ---- each missing start part is written out

-- Each test of a rule that a missing start part and `1` pass alike is passed as before.
module _ (M : Described) where
  written_out_every : (f : Rule → Bool) → ((r : Rule) → f (start_written_out r) ≡ f r) → (S : ℕ)
      → every_in (length (starts_written_out M).rules) S (λ i. f (rule_at (starts_written_out M).rules i)) ≡ every_in (length M.rules) S (λ i. f (rule_at M.rules i))
  unfolding every_in
  written_out_every f same S =
      ap (λ (n : ℕ). every_in n S (λ i. f (rule_at (starts_written_out M).rules i))) (length_written_out M)
      ∙ every_same (length M.rules) _ _ (λ i h. ap (λ b. not (has S i) || b) (ap f (rule_written_out M i h) ∙ same (rule_at M.rules i)))

  start_as_one : (s : ℕ) (o : Option Expr) → start_part_met (some (or_one o)) s ≡ start_part_met o s
  unfolding start_part_met or_one value
  start_as_one s none = refl
  start_as_one s (some e) = refl

  -- Each rule has the parts that it had,
  pub written_out_start : (i s : ℕ) → i < length M.rules → start_met (starts_written_out M) i s ≡ start_met M i s
  unfolding start_met start_written_out
  written_out_start i s h = ap (λ r. start_part_met r.start s) (rule_written_out M i h) ∙ start_as_one s (rule_at M.rules i).start

  pub written_out_step : (i s t : ℕ) → i < length M.rules → step_met (starts_written_out M) i s t ≡ step_met M i s t
  unfolding step_met start_written_out
  written_out_step i s t h = ap (λ r. value r.step s t) (rule_written_out M i h)

  -- and a set the system that it had.
  pub written_out_system : (S : ℕ) → system_of (starts_written_out M) S ≡ system_of M S
  unfolding system_of start_of init_met start_met step_of step_met bad_of property_met starts_written_out start_written_out
  written_out_system S =
      ap₂ (λ start step. record { size = 2 ^ M.vars; start = start; step = step; bad = bad_of M })
      (fun_ext (λ s. ap (λ b. init_met M s && b) (written_out_every (λ r. start_part_met r.start s) (λ r. start_as_one s r.start) S)))
      (fun_ext (λ s. fun_ext (λ t. written_out_every (λ r. value r.step s t) (λ r. refl) S)))

-- Where all rules hold, they hold with the parts of a rule outside MUST replaced.
pub replacing_holds : (i : ℕ) (step : Expr) (start : Option Expr) (M : Described) → i < length M.rules → judge M (full (length M.rules)) ≡ true
    → has (must_of (length M.rules) (judge M)) i ≡ false → judge (replacing i step start M) (full (length M.rules)) ≡ true
replacing_holds i step start M h all n =
    let R : ℕ = length M.rules in
    let rest : ℕ = without (full R) i in
    let lacks : has rest i ≡ false = false_if (has rest i) (λ m. ((has_without (full R) i i).0 m).1 refl) in
    (judge_monotone (replacing i step start M)).more rest (full R) (rw length_replacing (ones_lt R)) (without_part (full R) i)
    (judge_replacing i step start M rest lacks ∙ spared R (judge M) (judge_monotone M) all i h n)
