-- The list is found, since there is room for every set, and the bytes that were lent hold it.
use Rattle.std.proofs.Common.{ℕ, refl, sym, ap, arith, length-take-le}
use Rattle.std.proofs.lemmas.List.{length-replicate}
use Rattle.pages.specs.Laws.Putting.{put_as}
use Rattle.sections.specs.Told.{model_told}
use Rattle.sections.specs.Sections.{list_lines}
use Rattle.sections.proofs.Called.{is_listed, count_few, list_held}
use Rattle.sections.proofs.lists.list_lines.Goals as goal

pub unwrap-n-requires : goal.unwrap-n-requires
unwrap-n-requires c = is_listed c.args.which _ c.args.read.is_read (length-replicate {A = ℕ} 131072 0) c.list.ensures.value c.list.ensures.lent_after

pub overflow_mul-sets : goal.overflow_mul-sets
overflow_mul-sets c =
    let most = count_few c.args.which _ c.args.read.is_read (length-replicate {A = ℕ} 131072 0) c.list.ensures.value c.list.ensures.lent_after c.unwrap-n.ensures in
    omega arith

pub slice_bounds-sets-end : goal.slice_bounds-sets-end
slice_bounds-sets-end c =
    (list_held c.args.which _ c.args.read.is_read (length-replicate {A = ℕ} 131072 0) c.list.ensures.value c.list.ensures.lent_after c.unwrap-n.ensures _ refl).fits

pub slice_bounds-bytes-end : goal.slice_bounds-bytes-end
slice_bounds-bytes-end c =
    sym (length-take-le _ _ (list_held c.args.which _ c.args.read.is_read (length-replicate {A = ℕ} 131072 0) c.list.ensures.value c.list.ensures.lent_after c.unwrap-n.ensures _ refl).fits)

pub invariant_of-put_list : goal.invariant_of-put_list
invariant_of-put_list c =
    record { few = (list_held c.args.which _ c.args.read.is_read (length-replicate {A = ℕ} 131072 0) c.list.ensures.value c.list.ensures.lent_after c.unwrap-n.ensures _ refl).below }

pub returns : goal.returns
returns c =
    put_as _ _ _ _ c.put_list.ensures
    (ap (list_lines (model_told c.args.read) c.args.which)
    (list_held c.args.which _ c.args.read.is_read (length-replicate {A = ℕ} 131072 0) c.list.ensures.value c.list.ensures.lent_after c.unwrap-n.ensures _ refl).same)
