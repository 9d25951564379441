-- `cores::seeds::settle`: a seed that holds is a core, and what a broken one grows to leaves a cut. From the laws of what a seed adds, and since a set
-- holds if a part of it does. Assumes nothing.
use Rattle.std.proofs.Common.{ℕ, ◌-◌, ◌^◌, ◌<◌, ◌≡◌, bit_and}
use Rattle.sets.specs.Bit.{full}
use Rattle.sets.specs.Laws.Sets.{less_part, part_full}
use Rattle.marks.specs.Laws.Marks.{changed_is}
use Rattle.cores.specs.Laws.Seeds.{seed_growable, settled_core, settled_cut}
use Rattle.cores.specs.Laws.Judged.{tables_monotone}
use Rattle.cores.proofs.seeds.settle.Goals as goal

-- what a set of R rules lacks, as the code finds it
rest_of : (R M : ℕ) {all rest : ℕ} → M < 2 ^ R → all ≡ full R → rest ≡ all - bit_and all M → rest ≡ full R - M
rest_of R M l f e = rw (e, f) (less_part (part_full R M l))

pub grow-most-requires : goal.grow-most-requires
grow-most-requires c = seed_growable _ _ _ _ _ c.requires.going (tables_monotone _ _) _ c.requires.seed (cc)

pub returns-then-is_held : goal.returns-then-is_held
returns-then-is_held c =
    settled_core _ _ _ _ _ c.requires.going (tables_monotone _ _) _ c.requires.seed (cc) (changed_is c.clear_above.ensures) (changed_is c.mark.ensures)

pub returns-else-is_held : goal.returns-else-is_held
returns-else-is_held c =
    settled_cut _ _ _ _ _ c.requires.going (tables_monotone _ _) _ c.requires.seed c.grow-most.ensures
    (rest_of _ _ c.grow-most.ensures.below c.full.ensures c.less.ensures) (changed_is c.clear_below.ensures) (changed_is c.mark-else-is_held.ensures)
