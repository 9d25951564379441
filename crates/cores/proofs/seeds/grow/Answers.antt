-- `cores::seeds::grow`: a rule is added, or the set has it or holds with it. From the laws of a set that grows, and since a set holds if a part of it
-- does. Assumes nothing.
use Prim.Native.Nat.{ℕ, ◌+◌, ◌<◌}
use Rattle.std.proofs.Common.{arith, ◌≡◌, refl, sym, ◌∙◌}
use mathlib.Core.List.{List}
use mathlib.Core.Bool.{Bool, true, false, not, ◌&&◌, and-eq-true_iff, true≢false}
use borrow.Author.Tests.{not-true}
use Rattle.sets.specs.Bit.{has}
use Rattle.sets.specs.Sets.{with}
use Rattle.sets.specs.Laws.Sets.{with_above, with_below, part_trans}
use Rattle.sets.specs.Cores.{Monotone}
use Rattle.marks.specs.Marks.{marked}
use Rattle.systems.specs.BySystems.{judge_among}
use Rattle.cores.specs.Seeds.{Growable, Grown}
use Rattle.cores.specs.Laws.Seeds.{grown_more, grown_same}
use Rattle.cores.specs.Laws.Judged.{tables_monotone}
use Rattle.cores.proofs.seeds.grow.Goals as goal
use Rattle.cores.proofs.seeds.grow.Goals.{then-stays_broken, else-stays_broken}

module _ (R : ℕ) (h : ℕ → Bool) (unknown : List ℕ) (mono : Monotone R h) (S : ℕ) (able : Growable R h unknown S) (i : ℕ) (l : i < R) {T : ℕ} (g : Grown R h S i T) where
  -- what the test says: a rule that the set lacks, and with it a set that is not known and broken
  abbrev test : Bool
  test = not (has T i) && (marked unknown (with T i) && not (h (with T i)))

  taken : {U : ℕ} {b : Bool} → b ≡ test → b ≡ true → U ≡ with T i → Grown R h S (i + 1) U
  taken said t e =
      let later = ((and-eq-true_iff (not (has T i)) (marked unknown (with T i) && not (h (with T i)))).0 (sym said ∙ t)).1 in
      let broken = ((and-eq-true_iff (marked unknown (with T i)) (not (h (with T i)))).0 later).1 in
      grown_more R h S mono i l g e (not-true (h (with T i)) broken)

  left : {b : Bool} → b ≡ test → b ≡ false → Grown R h S (i + 1) T
  left said f = grown_same R h S mono i l g (λ n. held n (marked unknown (with T i)) _ refl refl)
    where
      held : has T i ≡ false → (u v : Bool) → marked unknown (with T i) ≡ u → h (with T i) ≡ v → h (with T i) ≡ true
      held n u true x y = y
      held n false false x y = able.known (with T i) (with_below R T i g.below l) (part_trans g.above (with_above T i)) x
      held n true false x y =
          let t : test ≡ true = rw (n, x, y) in
          absurd (true≢false (sym t ∙ sym said ∙ f))

pub stays_broken-requires : goal.stays_broken-requires
stays_broken-requires c =
    let i = c.loop-i in
    record { rule = omega arith; place = omega (arith, with_below c.args.systems.tables.now.rules i.most.0 i.i i.invariant.below c.loop-i-test.true) }

pub loop-i-preserved : goal.loop-i-preserved
loop-i-preserved c =
    let t = c.args.systems.tables.now in
    let h = judge_among c.args.systems in
    let mono = tables_monotone c.args.systems.masks.now t in
    let i = c.loop-i in
    elim c.if-stays_broken.branch [
      | then-stays_broken w ↦ rw w.most-is (taken t.rules h _ mono _ c.requires i.i c.loop-i-test.true i.invariant c.stays_broken.ensures w.if-stays_broken.true w.with-most.ensures)
      | else-stays_broken w ↦ rw w.most-is (left t.rules h _ mono _ c.requires i.i c.loop-i-test.true i.invariant c.stays_broken.ensures w.if-stays_broken.false)
    ]
