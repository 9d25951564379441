-- `marks::table::clear_above`: each step clears one word more, and in the end all that have a set to be cleared. From the laws of parts and of clearing.
use Prim.Native.Nat.{ℕ, ◌+◌, ◌-◌, ◌/◌, ◌%◌, ◌^◌, ◌≤◌, ◌<◌}
use mathlib.Core.Path.{◌≡◌, refl, sym}
use mathlib.Core.Logic.{◌↔◌, ◌≢◌, inr}
use mathlib.Core.Bool.{true, not, ◌&&◌, and-eq-true_iff}
use mathlib.Core.List.{List}
use native.Mathlib.Omega.{arith}
use native.Mathlib.Decide.{dec_lt}
use borrow.Author.Tests.{lt-ltb, ltb-true}
use lib.Dec.{ltb}
use lib.Bits.{bit_and, bit_or, or_add_and, and_le_r}
use lib.ListN.{length, get_or, set, length-set}
use Rattle.sets.specs.Laws.Choice.{alike}
use Rattle.sets.specs.Bit.{full}
use Rattle.sets.specs.Laws.Bit.{has_or}
use Rattle.sets.specs.Gathered.{set_of}
use Rattle.sets.specs.Laws.Gathered.{set_of_lt, has_set_of}
use Rattle.sets.specs.Sets.{◌⊑◌, part}
use Rattle.sets.specs.Laws.Sets.{part_iff, part_refl, part_le, part_split}
use Rattle.sets.specs.Laws.Cores.{false_if}
use Rattle.sets.specs.Laws.Steps.{next_above}
use Rattle.marks.specs.Marks.{changed}
use Rattle.marks.proofs.Clearing.{none_cleared, one_cleared, all_cleared}
use Rattle.marks.proofs.table.clear_above.Invariants.{passed, Clearing}
use Rattle.marks.proofs.table.clear_above.Goals as goal

passed_iff : (high w u : ℕ) → (passed high w u ≡ true) ↔ ((u < w) × (high ⊑ u))
passed_iff high w u = (
  λ e. let both = (and-eq-true_iff (ltb u w) (part high u)).0 e in (ltb-true u w both.0, (part_iff high u).0 both.1),
  λ p. (and-eq-true_iff (ltb u w) (part high u)).1 (lt-ltb u w p.0, (part_iff high u).1 p.1),
)

or_le : (a b : ℕ) → a ≤ bit_or a b
or_le a b = omega (arith, or_add_and a b, and_le_r a b)

start : (high bits : ℕ) (table : List ℕ) → ((w : ℕ) → get_or table w 0 < 2 ^ 64) → bits < 2 ^ 64 → Clearing high bits table table high
start high bits table words b =
    record {
      at = part_refl high;
      small = b;
      cleared = none_cleared (passed high high) bits table words
          (λ u. false_if (passed high high u) (λ e. let p = (passed_iff high high u).0 e in omega (arith, part_le p.1, p.0)));
    }

module _ (high bits : ℕ) (before table : List ℕ) (w : ℕ) (m : Clearing high bits before table w) where
  next : w < length table → Clearing high bits before (set table w (bit_and (get_or table w 0) (full 64 - bits))) (bit_or (w + 1) high)
  next l =
      record {
        at = record { every = λ i e. (has_or (w + 1) high i).1 (inr e) };
        small = m.small;
        cleared = one_cleared (passed high w) (passed high (bit_or (w + 1) high)) bits before table m.cleared w l m.small
            (false_if (passed high w w) (λ e. omega (arith, ((passed_iff high w w).0 e).0)))
            ((passed_iff high (bit_or (w + 1) high) w).1 (omega (arith, or_le (w + 1) high), m.at))
            (λ u n.
            alike (passed high w u) (passed high (bit_or (w + 1) high) u)
            (λ e. let p = (passed_iff high w u).0 e in (passed_iff high (bit_or (w + 1) high) u).1 (omega (arith, or_le (w + 1) high, p.0), p.1))
            (λ e. let p = (passed_iff high (bit_or (w + 1) high) u).0 e in (passed_iff high w u).1 (before_w u n p.0 p.1 (dec_lt w u), p.1)));
      }
    where
      before_w : (u : ℕ) → u ≢ w → u < bit_or (w + 1) high → high ⊑ u → Dec (w < u) → u < w
      before_w u n b p (yes g) = absurd (omega (arith, next_above high w u m.at p g))
      before_w u n b p (no g) = omega (arith, n)

  all : (S : ℕ) → high ≡ S / 64 → bits ≡ set_of 64 (λ t. part (S % 64) t) → length table ≤ w → table ≡ changed (λ T b. b && not (part S T)) before
  all S e said end =
      all_cleared (part S) (passed high w) bits before table m.cleared
      (λ T l.
      let visited : ltb (T / 64) w ≡ true = lt-ltb (T / 64) w (omega (arith, m.cleared.size)) in
      rw (visited, said, has_set_of 64 (λ t. part (S % 64) t) (T % 64) (omega arith), e) (sym (part_split 6 S T)))

pub loop-w-init : goal.loop-w-init
loop-w-init c = start _ _ _ (λ w. omega (arith, c.type_inv.table w)) (rw c.above-bits.ensures (set_of_lt 64 _))

pub loop-w-smaller : goal.loop-w-smaller
loop-w-smaller c = simp length-set (omega (arith, or_le (c.loop-w.w + 1) (c.args.set.0 / 64)))

pub loop-w-preserved : goal.loop-w-preserved
loop-w-preserved c = next _ _ _ _ _ c.loop-w.invariant c.loop-w-test.true

pub returns : goal.returns
returns c = all _ _ _ _ _ c.loop-w.invariant c.args.set.0 refl c.above-bits.ensures c.loop-w-test.false
