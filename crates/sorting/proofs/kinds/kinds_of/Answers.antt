-- `sorting::kinds::kinds_of`: what the marked sets have in common they have together, and that is a part of all rules. From the laws of parts.
use Rattle.std.proofs.Common.{ℕ, ◌-◌, ◌≡◌, refl, Bool, bit_and}
use Rattle.sets.specs.Bit.{full}
use Rattle.sets.specs.Sets.{◌⊑◌}
use Rattle.sets.specs.Lists.{list_of, common}
use Rattle.sets.specs.Kinds.{together}
use Rattle.sets.specs.Laws.Sets.{less_part, part_full}
use Rattle.sets.specs.Laws.Listed.{mem_list_of}
use Rattle.sets.proofs.Laws.ByNumber.{common_together, together_below}
use Rattle.sorting.specs.declared.kinds.Kinds.{Kinds}
use Rattle.sorting.specs.Kinds.{kinds_by}
use Rattle.sorting.proofs.kinds.kinds_of.Goals as goal

-- the rules of each kind as the code finds them, where the marked sets pass the test q
module _ (R : ℕ) (q : ℕ → Bool) {must some all may irrelevant : ℕ} (m : must ≡ common (list_of R q)) (s : some ≡ together (list_of R q)) (f : all ≡ full R) where
  kinds_are : may ≡ some - bit_and some must → irrelevant ≡ all - bit_and all some
      → ◌≡◌ {A = Kinds} (record { must = must; may = may; irrelevant = irrelevant }) (kinds_by R (list_of R q))
  unfolding kinds_by
  kinds_are e g =
      let in_some : must ⊑ some = rw (m, s) (common_together (list_of R q)) in
      let inAll : some ⊑ all = rw (f, s) (part_full R (together (list_of R q)) (together_below R (list_of R q) (λ S h. ((mem_list_of R q S).0 h).0))) in
      rw (e, g, less_part in_some, less_part inAll, m, s, f) refl

pub returns : goal.returns
returns c = kinds_are _ _ c.common.ensures c.together.ensures c.full.ensures c.less.ensures c.less-2.ensures
