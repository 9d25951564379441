-- `cores::seeds::find`: filled so, the tables say that nothing is known, and tables that mark the sets that pass a test are the tables by that test.
-- From the laws of tables of marks. Assumes nothing.
use Rattle.std.proofs.Common.{arith, rules}
use Rattle.marks.specs.Laws.Marks.{is_table_by}
use Rattle.cores.proofs.Finding.{all_marked, none_marked}
use Rattle.cores.proofs.seeds.find.Goals as goal

pub settle_all-requires : goal.settle_all-requires
settle_all-requires c =
    let p = c.requires in
    let a = c.args in
    record {
      all_unknown = all_marked p.few a.unknown.now p.in_unknown c.all_in_word.ensures (search rules);
      no_cores = none_marked p.few a.cores.now p.in_cores (search rules);
      no_cuts = none_marked p.few a.cuts.now p.in_cuts (search rules);
    }

pub returns-clause-unknown_after : goal.returns-clause-unknown_after
returns-clause-unknown_after c = is_table_by c.settle_all.ensures.none_unknown (search rules) (λ w. omega (arith, c.type_inv.unknown w))

pub returns-clause-cores_after : goal.returns-clause-cores_after
returns-clause-cores_after c = is_table_by c.settle_all.ensures.all_cores (search rules) (λ w. omega (arith, c.type_inv.cores w))

pub returns-clause-cuts_after : goal.returns-clause-cuts_after
returns-clause-cuts_after c = is_table_by c.settle_all.ensures.all_cuts (search rules) (λ w. omega (arith, c.type_inv.cuts w))
