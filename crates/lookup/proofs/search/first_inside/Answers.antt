-- `lookup::search::first_inside`: the pair that was found is the first whose set is a part. From the list as pairs of bytes.
use Rattle.std.proofs.Common.{ℕ, ◌∙◌, rules}
use borrow.Author.Tests.{tests}
use Rattle.std.proofs.lemmas.Iterator.{YieldsList-from_slice}
use Rattle.std.proofs.lemmas.Iterator.Search.{position_from_yields_List}
use Rattle.sets.specs.Sets.{part}
use Rattle.lookup.proofs.Pairs.{of_pair, pairs, first_pair}
use Rattle.lookup.proofs.search.first_inside.Goals as goal

pub returns-in_err-found : goal.returns-in_err-found
unfolding part
returns-in_err-found c =
    let list = c.args.list.now in
    let q = λ (S : ℕ). part S c.args.set in
    let found =
    position_from_yields_List {all = pairs q list} (of_pair q) _ _ _ c.in_err-found.ensures.ran
    (YieldsList-from_slice (pairs q list) (c.iter.ensures.rest ∙ c.as_chunks.ensures.front)) (λ x b q k. search (rules, tests)) in
    rw c.from_residual.ensures (first_pair q list _ found)

pub returns : goal.returns
unfolding part
returns c =
    let list = c.args.list.now in
    let q = λ (S : ℕ). part S c.args.set in
    let found =
    position_from_yields_List {all = pairs q list} (of_pair q) _ _ _ c.in_ok-found.ensures.ran
    (YieldsList-from_slice (pairs q list) (c.iter.ensures.rest ∙ c.as_chunks.ensures.front)) (λ x b q k. search (rules, tests)) in
    first_pair q list _ found
