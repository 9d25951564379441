-- `bodies::properties::property_count` counts a line more where the next one has the key, and where it has another, or so many are counted, there are no
-- others. From the definition of `leading`. Assumes nothing.
use Rattle.std.proofs.Common.{ℕ, zero, suc, ◌+◌, ◌-◌, ◌<◌, ◌≡◌, refl, sym, ap, ◌∙◌, arith, true, false, List}
use Rattle.lines.specs.Lines.{prop_key, starts_with}
use Rattle.bodies.specs.Properties.{after_line, leading, property_count}
use Rattle.bodies.proofs.properties.property_count.Goals as goal

no_more : (most : ℕ) (s : List ℕ) → starts_with prop_key s ≡ false → leading most s ≡ 0
unfolding leading
no_more zero s f = refl
no_more (suc most) s f = rw f refl

one_more : (most : ℕ) (s : List ℕ) → starts_with prop_key s ≡ true → leading (suc most) s ≡ suc (leading most (after_line s))
unfolding leading
one_more most s t = rw t refl

-- of s so many lines are counted behind the first, and so many of what is left are to be
module _ (s left : List ℕ) (more : ℕ) (h : property_count s ≡ 1 + more + leading (3 - more) left) where
  all_counted : starts_with prop_key left ≡ false → 1 + more ≡ property_count s
  all_counted f = omega (arith, h, no_more (3 - more) left f)

  next_counted : more < 3 → starts_with prop_key left ≡ true → property_count s ≡ 1 + (more + 1) + leading (3 - (more + 1)) (after_line left)
  next_counted b t =
      let still : 3 - more ≡ suc (3 - (more + 1)) = omega arith in
      omega (arith, h, ap (λ n. leading n left) still ∙ one_more (3 - (more + 1)) left t)

none_left : (left : List ℕ) → leading 0 left ≡ 0
unfolding leading
none_left left = refl

pub loop-more-init : goal.loop-more-init
unfolding property_count
loop-more-init c = omega (arith, ap (λ l. leading 3 l) (sym c.after_line-left.ensures))

pub returns-then-not-starts_with : goal.returns-then-not-starts_with
returns-then-not-starts_with c = all_counted _ c.loop-more.left.now c.loop-more.more c.loop-more.invariant (sym c.starts_with.ensures ∙ c.if-not-starts_with.true)

pub loop-more-preserved : goal.loop-more-preserved
loop-more-preserved c =
    let next = next_counted c.args.s.now c.loop-more.left.now c.loop-more.more c.loop-more.invariant c.loop-more-test.true (sym c.starts_with.ensures ∙ c.if-not-starts_with.false) in
    next ∙ ap (λ l. 1 + (c.loop-more.more + 1) + leading (3 - (c.loop-more.more + 1)) l) (sym c.after_line-left-in-loop-more.ensures)

pub returns : goal.returns
returns c =
    let end : c.loop-more.more ≡ 3 = omega (arith, c.loop-more-test.false, c.loop-more.auto.more-end) in
    omega (arith, c.loop-more.invariant, ap (λ n. leading (3 - n) c.loop-more.left.now) end, none_left c.loop-more.left.now, end)
