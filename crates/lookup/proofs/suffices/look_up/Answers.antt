-- `lookup::suffices::look_up`: each way out is a case of what the two searches found. A set of two bytes is apart from a set exactly when it is a part
-- of all other rules.
use Rattle.std.proofs.Common.{ℕ, ◌-◌, ◌<◌, ◌≡◌, sym, ap, ap₂, ◌∙◌, List, get_or, arith}
use Rattle.sets.specs.Sets.{part, apart}
use Rattle.sets.specs.Laws.Sets.{apart_part}
use Rattle.lookup.specs.Search.{first_in}
use Rattle.lookup.specs.Laws.Search.{first_agree}
use Rattle.lookup.specs.Suffices.{said_by, looked_up}
use Rattle.lookup.proofs.suffices.look_up.Goals as goal

of_the_rest : (set : ℕ) (list : List ℕ) → set < 4294967296 → ((i : ℕ) → get_or list i 0 < 256)
    → first_in (λ S. part S (4294967295 - set)) list ≡ first_in (λ S. apart S set) list
unfolding first_in
of_the_rest set list h f = sym (first_agree _ _ 0 (λ S l. apart_part 32 S set (omega arith) (omega arith)) list f)

pub returns : goal.returns
unfolding looked_up said_by
returns c = ap (λ core. said_by core (first_in (λ S. apart S c.args.set) c.args.cuts.now)) c.in-Some.ensures

pub returns-in-Some-first_inside : goal.returns-in-Some-first_inside
unfolding looked_up said_by
returns-in-Some-first_inside c =
    ap₂ said_by (sym c.in_default.is ∙ c.first_inside.ensures)
    (c.in-Some-first_inside.ensures ∙ of_the_rest c.args.set c.args.cuts.now (omega arith) (λ i. omega (arith, c.type_inv.cuts i)))

pub returns-in-None : goal.returns-in-None
unfolding looked_up said_by
returns-in-None c =
    ap₂ said_by (sym c.in_default.is ∙ c.first_inside.ensures)
    (c.in-None.ensures ∙ of_the_rest c.args.set c.args.cuts.now (omega arith) (λ i. omega (arith, c.type_inv.cuts i)))
