-- `calls::listing::list` meets its contract: a refused text is answered by its refusal, and the list of an accepted one is found as it is read.
-- Assumes nothing.
use Rattle.std.proofs.Common.{refl, ap, ◌∙◌}
use Rattle.std.proofs.lemmas.Result.{err_from_is_err_and}
use Rattle.std.specs.Option.{ok_or}
use Rattle.refusals.specs.declared.refusal.Refusal.{Refusal}
use Rattle.refusals.specs.Answers.{answer_of}
use Rattle.calls.proofs.ListFacts.{list_found, list_by_text, told_so}
use Rattle.calls.proofs.listing.list.Goals as goal

pub returns-in_err-m-clause-value : goal.returns-in_err-m-clause-value
returns-in_err-m-clause-value c =
    let p = err_from_is_err_and c.from_residual.result c.from_residual.ensures.1 in
    rw (p.1, p.2) (list_by_text c.args.which c.args.text.now c.args.lent.now c.in_err-m.ensures.refused).0

pub returns-in_err-m-clause-lent_after : goal.returns-in_err-m-clause-lent_after
returns-in_err-m-clause-lent_after c = (list_by_text _ _ _ c.in_err-m.ensures.refused).1

pub returns-clause-value : goal.returns-clause-value
returns-clause-value c =
    let r = c.in_ok-m.ensures.read in
    let told = ap answer_of c.ok_or.ensures.value ∙ ap (λ (e : Refusal). answer_of (ok_or c.list.result e)) c.into.ensures ∙ told_so c.list.result in
    (list_found r c.args.which c.args.lent.now told (c.list.ensures.value, c.list.ensures.lent_after)).0

pub returns-clause-lent_after : goal.returns-clause-lent_after
returns-clause-lent_after c =
    let r = c.in_ok-m.ensures.read in
    (list_found r c.args.which c.args.lent.now refl (c.list.ensures.value, c.list.ensures.lent_after)).1
