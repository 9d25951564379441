-- `marks::table::first_in_words`: the word that was found is the first that is not empty, and the words before it have no mark.
use Rattle.std.proofs.Common.{ℕ, ◌≡◌, ◌≢◌, arith, rules}
use borrow.Author.Tests.{tests}
use Rattle.std.specs.List.{between}
use Rattle.std.proofs.lemmas.Iterator.{IsFirst-from_position, YieldsList-from_slice}
use Rattle.marks.proofs.Words.{all_empty, first_filled}
use Rattle.marks.proofs.table.first_in_words.Goals as goal

pub returns-in_err-passed : goal.returns-in_err-passed
returns-in_err-passed c =
    let first =
    IsFirst-from_position _ _ _ (λ (x : ℕ). x ≢ 0) (λ (x : ℕ). x ≡ 0) c.position.ensures.ran
    (YieldsList-from_slice (between c.args.word c.args.words c.args.table.now) cc) (λ x q k. search (rules, tests)) (λ x q k. search (rules, tests)) in
    rw c.from_residual.ensures (all_empty _ _ _ c.requires.within c.requires.passed (rw c.in_err-passed.was at first))

pub returns : goal.returns
returns c =
    let first =
    IsFirst-from_position _ _ _ (λ (x : ℕ). x ≢ 0) (λ (x : ℕ). x ≡ 0) c.position.ensures.ran
    (YieldsList-from_slice (between c.args.word c.args.words c.args.table.now) cc) (λ x q k. search (rules, tests)) (λ x q k. search (rules, tests)) in
    first_filled _ _ _ c.requires.within (λ w. omega (arith, c.type_inv.table w)) _ (rw c.in_ok-passed.was at first)
