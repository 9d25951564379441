-- The marks from s on are looked at in turn. Assumes nothing.
use Rattle.std.proofs.Common.{ℕ, ◌≡◌, ◌≢◌, bit_and, rules}
use borrow.Author.Tests.{tests}
use Rattle.std.proofs.lemmas.Iterator.{IsFirst-from_position, YieldsList-from_slice}
use Rattle.verdicts.proofs.Reaching.{rest, none_open, first_open}
use Rattle.verdicts.proofs.verdict.next_open.Goals as goal

pub returns-in_err-passed : goal.returns-in_err-passed
returns-in_err-passed c =
    let first =
    IsFirst-from_position _ _ _ (λ (m : ℕ). bit_and m 3 ≡ 1) (λ (m : ℕ). bit_and m 3 ≢ 1) c.position.ensures.ran
    (YieldsList-from_slice (rest c.args.marks.now c.args.s) cc) (λ x q k. search (rules, tests)) (λ x q k. search (rules, tests)) in
    rw c.from_residual.ensures (none_open _ _ c.requires (rw c.in_err-passed.was at first))

pub returns : goal.returns
returns c =
    let first =
    IsFirst-from_position _ _ _ (λ (m : ℕ). bit_and m 3 ≡ 1) (λ (m : ℕ). bit_and m 3 ≢ 1) c.position.ensures.ran
    (YieldsList-from_slice (rest c.args.marks.now c.args.s) cc) (λ x q k. search (rules, tests)) (λ x q k. search (rules, tests)) in
    first_open _ _ (rw c.in_ok-passed.was at first)
