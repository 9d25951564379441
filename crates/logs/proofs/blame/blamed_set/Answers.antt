-- Each pair of neighbours has a mask, and what their masks leave are the rules that are not broken. Assumes nothing.
use Rattle.std.proofs.Common.{drop, bit_and, ap, ◌∙◌, rules}
use Rattle.std.proofs.lemmas.Iterator.{YieldsList-from_slice, YieldsList-from_zip, YieldsList-from_map}
use Rattle.std.proofs.lemmas.Iterator.Adapters.{serves_from_places}
use Rattle.std.proofs.lemmas.Iterator.Consumers.{fold_from_yields_List}
use Rattle.logs.proofs.Pairs.{second_states, mask, has_mask, blamed_is}
use Rattle.logs.proofs.blame.blamed_set.Goals as goal

pub fold-met-requires-clause-can : goal.fold-met-requires-clause-can
fold-met-requires-clause-can c =
    let log = c.args.log.now in
    let t = c.args.systems.tables.now in
    let masks = c.args.systems.masks.now in (
      (tt, tt),
      serves_from_places
          (YieldsList-from_zip (YieldsList-from_slice log (cc))
          (YieldsList-from_slice (drop 1 log) (ap (λ z. z.b.rest.now) c.map.ensures.source ∙ c.zip.ensures.second.0 ∙ second_states masks t log)))
          (λ x q k. search rules)
          (λ x k h e. let m = has_mask masks t log c.args.systems.has_room c.requires.log (x.0.now, x.1.now) k h e in search rules),
    )

pub returns : goal.returns
returns c =
    let log = c.args.log.now in
    let t = c.args.systems.tables.now in
    let masks = c.args.systems.masks.now in
    blamed_is masks t log c.full.ensures
    (fold_from_yields_List _ bit_and _ c.fold-met.result c.fold-met.ensures.ran
    (YieldsList-from_map _ (mask masks t log)
    (YieldsList-from_zip (YieldsList-from_slice log (cc))
    (YieldsList-from_slice (drop 1 log) (ap (λ z. z.b.rest.now) c.map.ensures.source ∙ c.zip.ensures.second.0 ∙ second_states masks t log)))
    c.map.ensures.closure (λ x r q k. search rules))
    (λ a x b q k. search rules))
    c.less.ensures
