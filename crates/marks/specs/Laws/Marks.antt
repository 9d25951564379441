-- What storing one word does to the marks of a table of sets, that the table after a change is told by its marks, which marks a repeated word
-- makes, and that a table that marks the sets that pass a test is the table by that test. From the bits of words and the laws of lists.
use Rattle.std.specs.Prelude.{ℕ, ◌+◌, ◌-◌, ◌*◌, ◌/◌, ◌%◌, ◌^◌, ◌≤◌, ◌<◌, ◌≡◌, ◌⊎◌, Bool, false, cond, ◌&&◌, List, ◌++◌, eqb, length, get_or, set, replicate}
use Rattle.std.proofs.Common.{sym, ◌∙◌, inl, inr, ⊎_elim, pow-add, pow_mono, get_or-set_same, get_or-set_other}
use Rattle.std.proofs.Math.Path.{ap}
use native.Mathlib.Omega.{arith}
use Rattle.std.proofs.Math.Decide.{ℕ_discrete, dec_lt}
use borrow.Author.Tests.{eq-eqb, ne_eqb, lt-ltb, le-ltb}
use Rattle.std.proofs.Math.Dec.{ltb}
use Rattle.std.proofs.Math.ListN.{drop, length-append, get_or-append}
use Rattle.std.proofs.lemmas.List.{length-replicate, get_or-replicate}
use Rattle.sets.specs.Bit.{has}
use Rattle.sets.specs.Lists.{list_of, overwritten}
use Rattle.sets.specs.Laws.Growth.{list_of_agree}
use Rattle.sets.specs.Laws.Gathered.{has_set_of, is_set_of, set_of_same}
use Rattle.sets.specs.Laws.Tabulated.{length_tabulate, get_d_tabulate, tabulated, same_entries}
use Rattle.marks.specs.Marks.{marked, word_by, table_by, Room, NonePast, Marks, changed_word, changed}

-- One word is stored.
pub word_stored : (table : List ℕ) (w v : ℕ) → w < length table → (S : ℕ)
    → marked (set table w v) S ≡ cond (eqb (S / 64) w) (has v (S % 64)) (marked table S)
unfolding marked
word_stored table w v h S = at (ℕ_discrete (S / 64) w)
  where
    at : Dec (S / 64 ≡ w) → has (get_or (set table w v) (S / 64) 0) (S % 64) ≡ cond (eqb (S / 64) w) (has v (S % 64)) (has (get_or table (S / 64) 0) (S % 64))
    at (yes e) = rw (eq-eqb (S / 64) w e) (ap (λ (x : ℕ). has x (S % 64)) (rw e (get_or-set_same table w v 0 h)))
    at (no n) = rw (ne_eqb (S / 64) w n) (ap (λ (x : ℕ). has x (S % 64)) (get_or-set_other table w (S / 64) v 0 n))

-- The other words stay as small as they were.
pub stored_small : (table : List ℕ) (w v : ℕ) → w < length table → ((u : ℕ) → get_or table u 0 < 2 ^ 64) → v < 2 ^ 64 → (u : ℕ) → get_or (set table w v) u 0 < 2 ^ 64
stored_small table w v h small l u = at (ℕ_discrete u w)
  where
    at : Dec (u ≡ w) → get_or (set table w v) u 0 < 2 ^ 64
    at (yes e) = rw (e, get_or-set_same table w v 0 h) l
    at (no n) = rw (get_or-set_other table w u v 0 n) (small u)

-- ---- a change

-- What is said of a table after a change: f tells what has become of each mark.
pub record Changed (f : ℕ → Bool → Bool) (before after : List ℕ) : Type 0 where
  pub size : length after ≡ length before
  pub at : (S : ℕ) → S < 64 * length before → marked after S ≡ f S (marked before S)

module _ {f : ℕ → Bool → Bool} {before after : List ℕ} where
  -- It holds of that table,
  pub changed_is : after ≡ changed f before → Changed f before after
  unfolding changed marked
  changed_is e =
      rw e
      (record {
        size = length_tabulate (length before) (changed_word f before);
        at = λ S l.
            let whole : 64 * (S / 64) + S % 64 ≡ S = omega arith in
            ap (λ (x : ℕ). has x (S % 64)) (get_d_tabulate (length before) (changed_word f before) 0 (S / 64) (omega arith))
            ∙ has_set_of 64 (λ t. f (64 * (S / 64) + t) (marked before (64 * (S / 64) + t))) (S % 64) (omega arith)
            ∙ ap (λ (x : ℕ). f x (marked before x)) whole;
      })

  -- and a table of words of 64 bits of which it holds is that one.
  pub is_changed : Changed f before after → ((w : ℕ) → get_or after w 0 < 2 ^ 64) → after ≡ changed f before
  unfolding changed marked
  is_changed c small =
      tabulated (length before) (changed_word f before) 0 after c.size
      (λ w l. is_set_of 64 (get_or after w 0) (λ t. f (64 * w + t) (marked before (64 * w + t))) (small w) (λ t b. at w t b ∙ c.at (64 * w + t) (omega arith)))
    where
      at : (w t : ℕ) → t < 64 → has (get_or after w 0) t ≡ marked after (64 * w + t)
      at w t b =
          let high : (64 * w + t) / 64 ≡ w = omega arith in
          let low : (64 * w + t) % 64 ≡ t = omega arith in
          rw (high, low)

-- A change that makes no mark past the sets of R rules leaves none there.
pub past_stays : {R : ℕ} {f : ℕ → Bool → Bool} {before after : List ℕ} → Changed f before after → NonePast R before
    → ((S : ℕ) → 2 ^ R ≤ S → f S false ≡ false) → NonePast R after
past_stays {R} {f} {before} {after} c n stays =
    record { none = λ S l b. let h : S < 64 * length before = omega (arith, c.size) in c.at S h ∙ ap (f S) (n.none S l h) ∙ stays S l }

-- The sets of fewer than six rules take a part of one word, and those of others whole words.
whole_words : (R : ℕ) → (2 ^ R ≤ 32) ⊎ ((2 ^ R + 63) / 64 * 64 ≡ 2 ^ R)
whole_words R = at (dec_lt R 6)
  where
    at : Dec (R < 6) → (2 ^ R ≤ 32) ⊎ ((2 ^ R + 63) / 64 * 64 ≡ 2 ^ R)
    at (yes l) = let five : R ≤ 5 = omega arith in inl (pow_mono five)
    at (no n) =
        let e : R ≡ 6 + (R - 6) = omega arith in
        let parts : 2 ^ R ≡ 64 * 2 ^ (R - 6) = ap (λ (k : ℕ). 2 ^ k) e ∙ pow-add 2 6 (R - 6) in
        inr (omega (arith, parts))

-- One word all over: every set is marked, or none is, and no other number.
pub repeated : (R word : ℕ) (b : Bool) (words : ℕ) → R ≤ 16 → words ≡ (2 ^ R + 63) / 64 → ((t : ℕ) → t < 64 → has word t ≡ (ltb t (2 ^ R) && b))
    → Marks R (λ S. b) (replicate words word)
unfolding marked
repeated R word b words few e alike =
    record {
      few = few;
      room = omega (arith, length-replicate {A = ℕ} words word);
      each = λ S l. here S (omega arith) ∙ rw (lt-ltb (S % 64) (2 ^ R) (omega arith));
      past = record {
        none = λ S l h.
            let k : S < 64 * words = omega (arith, length-replicate {A = ℕ} words word) in
            here S (omega arith) ∙ rw (le-ltb (S % 64) (2 ^ R) (⊎_elim (λ p. omega arith) (λ q. absurd (omega arith)) (whole_words R)));
      };
    }
  where
    here : (S : ℕ) → S / 64 < words → has (get_or (replicate words word) (S / 64) 0) (S % 64) ≡ (ltb (S % 64) (2 ^ R) && b)
    here S l = ap (λ (x : ℕ). has x (S % 64)) (get_or-replicate words (S / 64) word 0 l) ∙ alike (S % 64) (omega arith)

-- ---- the table by a test

-- A table of as many words as the marks take, each of 64 bits, that marks the sets that pass.
pub is_table_by : {R : ℕ} {p : ℕ → Bool} {table : List ℕ} → Marks R p table → length table ≡ (2 ^ R + 63) / 64 → ((w : ℕ) → get_or table w 0 < 2 ^ 64)
    → table ≡ table_by R p
unfolding table_by marked
is_table_by {R} {p} {table} m e small =
    tabulated ((2 ^ R + 63) / 64) (word_by R p) 0 table e
    (λ w l. is_set_of 64 (get_or table w 0) (λ t. ltb (64 * w + t) (2 ^ R) && p (64 * w + t)) (small w) (λ t b. at w t l b (dec_lt (64 * w + t) (2 ^ R))))
  where
    here : (w t : ℕ) → t < 64 → marked table (64 * w + t) ≡ has (get_or table w 0) t
    here w t b =
        let high : (64 * w + t) / 64 ≡ w = omega arith in
        let low : (64 * w + t) % 64 ≡ t = omega arith in
        rw (high, low)

    at : (w t : ℕ) → w < (2 ^ R + 63) / 64 → t < 64 → Dec (64 * w + t < 2 ^ R) → has (get_or table w 0) t ≡ (ltb (64 * w + t) (2 ^ R) && p (64 * w + t))
    at w t l b (yes s) = rw (lt-ltb (64 * w + t) (2 ^ R) s) (sym (here w t b) ∙ m.each (64 * w + t) s)
    at w t l b (no n) = rw (le-ltb (64 * w + t) (2 ^ R) (omega arith)) (sym (here w t b) ∙ m.past.none (64 * w + t) (omega arith) (omega arith))

module _ (R : ℕ) (p : ℕ → Bool) where
  pub table_by_room : R ≤ 16 → Room R (table_by R p)
  unfolding table_by
  table_by_room few = record { few = few; room = omega (arith, length_tabulate ((2 ^ R + 63) / 64) (word_by R p)) }

  pub table_by_marks : (S : ℕ) → S < 2 ^ R → marked (table_by R p) S ≡ p S
  unfolding table_by marked
  table_by_marks S l =
      let whole : 64 * (S / 64) + S % 64 ≡ S = omega arith in
      ap (λ (x : ℕ). has x (S % 64)) (get_d_tabulate ((2 ^ R + 63) / 64) (word_by R p) 0 (S / 64) (omega arith))
      ∙ has_set_of 64 (λ t. ltb (64 * (S / 64) + t) (2 ^ R) && p (64 * (S / 64) + t)) (S % 64) (omega arith)
      ∙ rw (whole, lt-ltb S (2 ^ R) l)

  pub length_table_by : length (table_by R p) ≡ (2 ^ R + 63) / 64
  unfolding table_by
  length_table_by = length_tabulate ((2 ^ R + 63) / 64) (word_by R p)

-- Tests that agree on the sets of R rules have the same table.
pub table_by_agree : (R : ℕ) (p q : ℕ → Bool) → ((S : ℕ) → S < 2 ^ R → p S ≡ q S) → table_by R p ≡ table_by R q
unfolding table_by
table_by_agree R p q same =
    same_entries ((2 ^ R + 63) / 64) (word_by R p) (word_by R q)
    (λ w _.
    set_of_same 64 (λ t. ltb (64 * w + t) (2 ^ R) && p (64 * w + t)) (λ t. ltb (64 * w + t) (2 ^ R) && q (64 * w + t)) (λ t _. at (64 * w + t) (dec_lt (64 * w + t) (2 ^ R))))
  where
    at : (S : ℕ) → Dec (S < 2 ^ R) → (ltb S (2 ^ R) && p S) ≡ (ltb S (2 ^ R) && q S)
    at S (yes l) = ap (λ b. ltb S (2 ^ R) && b) (same S l)
    at S (no n) = rw (le-ltb S (2 ^ R) (omega arith))

-- ---- a table over the front of lent words

module _ (R : ℕ) (p : ℕ → Bool) (lent : List ℕ) where
  pub front_room : Room R lent → Room R (overwritten (table_by R p) lent)
  unfolding overwritten
  front_room r =
      record {
        few = r.few;
        room = omega (arith, length-append (table_by R p) (drop (length (table_by R p)) lent), (table_by_room R p r.few).room);
      }

  pub front_listed : list_of R (marked (overwritten (table_by R p) lent)) ≡ list_of R p
  unfolding overwritten marked
  front_listed = list_of_agree R (marked (table_by R p ++ drop (length (table_by R p)) lent)) p at
    where
      at : (S : ℕ) → S < 2 ^ R → marked (table_by R p ++ drop (length (table_by R p)) lent) S ≡ p S
      at S l =
          ap (λ (x : ℕ). has x (S % 64)) (get_or-append (table_by R p) (drop (length (table_by R p)) lent) 0 (S / 64) (omega (arith, length_table_by R p)))
          ∙ table_by_marks R p S l
