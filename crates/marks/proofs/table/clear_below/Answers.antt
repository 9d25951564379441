-- `marks::table::clear_below`: each step clears one word more, and in the end all that have a set to be cleared. From the laws of parts and of clearing.
use Prim.Native.Nat.{ℕ, ◌-◌, ◌/◌, ◌%◌, ◌^◌, ◌≤◌, ◌<◌}
use mathlib.Core.Path.{◌≡◌, refl, sym, ap, ◌∙◌}
use mathlib.Core.Logic.{◌↔◌, ◌≢◌}
use mathlib.Core.Bool.{true, false, not, ◌&&◌, and-eq-true_iff}
use mathlib.Core.List.{List}
use native.Mathlib.Omega.{arith}
use native.Mathlib.Decide.{dec_lt}
use borrow.Author.Tests.{lt-ltb, ltb-true}
use lib.Dec.{ltb}
use lib.Bits.{bit_and, and_le_l}
use lib.ListN.{length, get_or, set, length-set}
use Rattle.sets.specs.Laws.Choice.{alike}
use Rattle.sets.specs.Bit.{full}
use Rattle.sets.specs.Laws.Bit.{has_and}
use Rattle.sets.specs.Gathered.{set_of}
use Rattle.sets.specs.Laws.Gathered.{set_of_lt, has_set_of}
use Rattle.sets.specs.Sets.{◌⊑◌, part}
use Rattle.sets.specs.Laws.Sets.{part_iff, part_refl, part_zero, part_le, part_split}
use Rattle.sets.specs.Laws.Cores.{false_if}
use Rattle.sets.specs.Laws.Steps.{next_below}
use Rattle.marks.specs.Marks.{changed}
use Rattle.marks.proofs.Clearing.{none_cleared, one_cleared, all_cleared}
use Rattle.marks.proofs.table.clear_below.Invariants.{passed, Clearing}
use Rattle.marks.proofs.table.clear_below.Goals as goal

passed_iff : (high w u : ℕ) → (passed high w u ≡ true) ↔ ((w < u) × (u ⊑ high))
passed_iff high w u = (
  λ e. let both = (and-eq-true_iff (ltb w u) (part u high)).0 e in (ltb-true w u both.0, (part_iff u high).0 both.1),
  λ p. (and-eq-true_iff (ltb w u) (part u high)).1 (lt-ltb w u p.0, (part_iff u high).1 p.1),
)

start : (high bits : ℕ) (table : List ℕ) → ((w : ℕ) → get_or table w 0 < 2 ^ 64) → high < length table → bits < 2 ^ 64 → Clearing high bits table table high
start high bits table words l b =
    record {
      at = part_refl high;
      inside = l;
      small = b;
      cleared = none_cleared (passed high high) bits table words
          (λ u. false_if (passed high high u) (λ e. let p = (passed_iff high high u).0 e in omega (arith, part_le p.1, p.0)));
    }

module _ (high bits : ℕ) (before table : List ℕ) (w : ℕ) (m : Clearing high bits before table w) where
  not_yet : passed high w w ≡ false
  not_yet = false_if (passed high w w) (λ e. omega (arith, ((passed_iff high w w).0 e).0))

  next : 0 < w → Clearing high bits before (set table w (bit_and (get_or table w 0) (full 64 - bits))) (bit_and (w - 1) high)
  next l =
      record {
        at = record { every = λ i e. ((has_and (w - 1) high i).0 e).1 };
        inside = simp length-set (omega (arith, and_le_l (w - 1) high, m.inside));
        small = m.small;
        cleared = one_cleared (passed high w) (passed high (bit_and (w - 1) high)) bits before table m.cleared w m.inside m.small not_yet
            ((passed_iff high (bit_and (w - 1) high) w).1 (omega (arith, and_le_l (w - 1) high), m.at))
            (λ u n.
            alike (passed high w u) (passed high (bit_and (w - 1) high) u)
            (λ e. let p = (passed_iff high w u).0 e in (passed_iff high (bit_and (w - 1) high) u).1 (omega (arith, and_le_l (w - 1) high, p.0), p.1))
            (λ e. let p = (passed_iff high (bit_and (w - 1) high) u).0 e in (passed_iff high w u).1 (after_w u n p.0 p.1 (dec_lt u w), p.1)));
      }
    where
      after_w : (u : ℕ) → u ≢ w → bit_and (w - 1) high < u → u ⊑ high → Dec (u < w) → w < u
      after_w u n b p (yes g) = absurd (omega (arith, next_below high w u m.at p g))
      after_w u n b p (no g) = omega (arith, n)

  all : (S : ℕ) → high ≡ S / 64 → bits ≡ set_of 64 (λ t. part t (S % 64)) → w ≤ 0
      → set table 0 (bit_and (get_or table 0 0) (full 64 - bits)) ≡ changed (λ T b. b && not (part T S)) before
  all S e said end =
      let first : w ≡ 0 = omega arith in
      all_cleared (λ T. part T S) (λ u. part u high) bits before _
      (one_cleared (passed high w) (λ u. part u high) bits before table m.cleared 0 (omega (arith, m.inside)) m.small (ap (passed high w) (sym first) ∙ not_yet)
      ((part_iff 0 high).1 (part_zero high))
      (λ u n.
      alike (passed high w u) (part u high) (λ q. (part_iff u high).1 ((passed_iff high w u).0 q).1)
      (λ q. (passed_iff high w u).1 (omega (arith, n), (part_iff u high).0 q))))
      (λ T l. rw (said, has_set_of 64 (λ t. part t (S % 64)) (T % 64) (omega arith), e) (sym (part_split 6 T S)))

pub loop-w-init : goal.loop-w-init
loop-w-init c = start _ _ _ (λ w. omega (arith, c.type_inv.table w)) (omega (arith, c.requires)) (rw c.below-bits.ensures (set_of_lt 64 _))

pub loop-w-smaller : goal.loop-w-smaller
loop-w-smaller c = omega (arith, c.loop-w-test.true, and_le_l (c.loop-w.w - 1) (c.args.set.0 / 64))

pub loop-w-preserved : goal.loop-w-preserved
loop-w-preserved c = next _ _ _ _ _ c.loop-w.invariant c.loop-w-test.true

pub returns : goal.returns
returns c = all _ _ _ _ _ c.loop-w.invariant c.args.set.0 refl c.below-bits.ensures c.loop-w-test.false
