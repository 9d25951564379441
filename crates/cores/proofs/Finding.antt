-- Every set is settled, by number: no set below the place where the next one is looked for is unknown, and where none is left all cores and all cuts are
-- found. From the laws of going over the sets. Assumes nothing.
use Prim.Native.Nat.{ℕ, ◌+◌, ◌/◌, ◌^◌, ◌≤◌, ◌<◌}
use Rattle.std.specs.Prelude.{◌≡◌, Bool, true, false, List, Some, None, length, replicate, ltb}
use mathlib.Core.Bool.{and-true, and-false}
use Rattle.sets.specs.Bit.{has}
use Rattle.sets.specs.Laws.Bit.{has_zero}
use Rattle.sets.specs.Laws.Cores.{false_if}
use Rattle.sets.specs.Gathered.{set_of}
use Rattle.sets.specs.Laws.Gathered.{has_set_of}
use Rattle.std.proofs.Common.{arith, sym, ap, ◌∙◌}
use borrow.Author.Count.{below_more}
use native.Mathlib.Decide.{dec_lt}
use Rattle.std.proofs.Math.Pow.{pow_mono}
use Rattle.sets.specs.Next.{next_if_any}
use Rattle.sets.specs.Laws.Next.{next_is_some, next_is_none}
use Rattle.marks.specs.Marks.{marked, Ending, Marks}
use Rattle.marks.specs.Laws.Marks.{repeated}
use Rattle.cores.specs.Seeds.{Going, Seed, Settled, Fresh, AllFound}
use Rattle.cores.specs.Laws.Seeds.{all_unknown, none_unknown}

pub record Finding (R : ℕ) (h : ℕ → Bool) (end : ℕ) (unknown cores cuts : List ℕ) (from : ℕ) : Type 0 where
  pub count : end ≡ 2 ^ R
  pub going : Going R h unknown cores cuts
  pub within : from ≤ end
  pub settled : (T : ℕ) → T < from → marked unknown T ≡ false

pub begun : {R : ℕ} {h : ℕ → Bool} {end : ℕ} {unknown cores cuts : List ℕ} → end ≡ 2 ^ R → Fresh R unknown cores cuts → Finding R h end unknown cores cuts 0
begun {R} {h} {end} {unknown} {cores} {cuts} e f = record {
  count = e;
  going = all_unknown R h unknown cores cuts f.all_unknown f.no_cores f.no_cuts;
  within = omega arith;
  settled = λ T l. absurd (omega arith);
}

module _ {R : ℕ} {h : ℕ → Bool} {end : ℕ} {unknown cores cuts : List ℕ} {from : ℕ} (f : Finding R h end unknown cores cuts from) where
  small : end ≤ 65536
  small = omega (arith, f.count, pow_mono f.going.few)

  pub ending : Ending end unknown
  ending = record { few = small; room = omega (arith, f.count, f.going.room_unknown) }

  module _ {s : ℕ} (e : next_if_any (marked unknown) from end ≡ Some s) where
    pub seed_within : (from ≤ s) × (s < end) × (end ≤ 65536)
    seed_within = let n = next_is_some (marked unknown) e in (n.0, n.1, small)

    pub seed : Seed R (marked unknown) s
    seed =
        let n = next_is_some (marked unknown) e in
        record { below = omega (arith, f.count, n.1); itself = n.2.passes n.1; first = λ T l. at T l (dec_lt T from) }
      where
        at : (T : ℕ) → T < s → Dec (T < from) → marked unknown T ≡ false
        at T l (yes x) = f.settled T x
        at T l (no x) = (next_is_some (marked unknown) e).2.passed T (omega arith) l

    pub next : {unknown' cores' cuts' : List ℕ} → Settled R h s unknown unknown' cores' cuts' → Finding R h end unknown' cores' cuts' (s + 1)
    next d = record {
      count = f.count;
      going = d.going;
      within = omega (arith, seed_within);
      settled = below_more _ s (λ T l. d.stays T (omega (arith, seed.below)) (seed.first T l)) d.itself;
    }

  pub all : next_if_any (marked unknown) from end ≡ None → AllFound R h unknown cores cuts
  all e = none_unknown R h unknown cores cuts f.going (λ S l. at S (omega (arith, f.count)) (dec_lt S from))
    where
      at : (S : ℕ) → S < end → Dec (S < from) → marked unknown S ≡ false
      at S l (yes x) = f.settled S x
      at S l (no x) = next_is_none (marked unknown) e S (omega arith) l

-- ---- tables before the first set is settled

-- A table of the words that the marks of the sets of R rules take, once it is filled.
module _ {R : ℕ} (few : R ≤ 16) (before : List ℕ) {after : List ℕ} (size : length before ≡ (2 ^ R + 63) / 64) where
  pub all_marked : {word : ℕ} → word ≡ set_of 64 (λ t. ltb t (2 ^ R)) → after ≡ replicate (length before) word → Marks R (λ S. true) after
  all_marked {word} said e =
      rw e
      (repeated R word true (length before) few size
      (λ t l. ap (λ (x : ℕ). has x t) said ∙ has_set_of 64 (λ t. ltb t (2 ^ R)) t l ∙ sym (and-true (ltb t (2 ^ R)))))

  pub none_marked : after ≡ replicate (length before) 0 → Marks R (λ S. false) after
  none_marked e = rw e (repeated R 0 false (length before) few size (λ t l. false_if (has 0 t) (has_zero t) ∙ sym (and-false (ltb t (2 ^ R)))))
