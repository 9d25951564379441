-- An entry of a list that is given entry by entry, and which list it is after a repeated value, after a store at one place, at the next place
-- from the front, or to a part that is lent; the last ones are for marks by a test. From the laws of lists.
use Prim.Native.Nat.{ℕ, zero, suc, ◌+◌, ◌-◌, ◌<◌, ◌≤◌, zero-le}
use Rattle.std.specs.Prelude.{◌≡◌, ◌↔◌, ◌≢◌, Bool, false, ◌&&◌, ltb, length, take, drop, set, replicate}
use Rattle.std.proofs.Math.Path.{refl, ap₂, subst}
use Rattle.std.proofs.Common.{sym, ap, ◌∙◌, arith, add-suc, add-one, lt-ltb, le-ltb, ltb-true, length-set, get_or-set_same, get_or-set_other, take_at, drop_at, ext_get_or}
use Rattle.std.proofs.Math.Logic.{⊎_elim}
use mathlib.Core.List.Memᴰ
use mathlib.Core.List.{List, [], ◌∷◌, ◌++◌, append_assoc, append-nil, Memᴰ}
use Rattle.std.proofs.Math.Decide.{ℕ_discrete}
use Rattle.std.proofs.Math.Nat.{add-zero}
use borrow.Author.Count.{below_none, below_more}
use Rattle.std.proofs.Math.ListN.{get_or, length-append, get_or-append}
use Rattle.std.proofs.lemmas.List.{length-replicate, get_or-replicate, get_or_at, set_at}
use Rattle.std.proofs.Math.Seq.{drop-cons}
use Rattle.sets.specs.Laws.Choice.{alike}
use Rattle.sets.specs.Tabulated.{tabulate}

module _ {A : Type 0} where
  pub length_tabulate : (n : ℕ) (f : ℕ → A) → length (tabulate n f) ≡ n
  unfolding tabulate
  length_tabulate zero f = refl
  length_tabulate (suc n) f = length-append (tabulate n f) (f n ∷ []) ∙ omega (arith, length_tabulate n f)

  pub get_d_tabulate : (n : ℕ) (f : ℕ → A) (d : A) (i : ℕ) → i < n → get_or (tabulate n f) i d ≡ f i
  unfolding tabulate
  get_d_tabulate zero f d i h = absurd (omega arith)
  get_d_tabulate (suc n) f d i h =
      below_more (λ (i : ℕ). get_or (tabulate (suc n) f) i d ≡ f i) n
      (λ i l. get_or-append (tabulate n f) (f n ∷ []) d i (omega (arith, length_tabulate n f)) ∙ get_d_tabulate n f d i l)
      (get_or_at (tabulate n f) (f n) [] d n (length_tabulate n f))
      i
      (omega arith)

  -- A list that has the entries.
  pub tabulated : (n : ℕ) (f : ℕ → A) (d : A) (l : List A) → length l ≡ n → ((i : ℕ) → i < n → get_or l i d ≡ f i) → l ≡ tabulate n f
  tabulated n f d l e h =
      ext_get_or d l (tabulate n f) (e ∙ sym (length_tabulate n f))
      (λ i b. h i (omega arith) ∙ sym (get_d_tabulate n f d i (omega arith)))

  pub same_entries : (n : ℕ) (f g : ℕ → A) → ((i : ℕ) → i < n → f i ≡ g i) → tabulate n f ≡ tabulate n g
  unfolding tabulate
  same_entries zero f g h = refl
  same_entries (suc n) f g h = ap₂ (λ l a. l ++ a ∷ []) (same_entries n f g (λ i l. h i (omega arith))) (h n (omega arith))

  -- Every entry of the list is P.
  pub each_tabulate : (P : A → Type 0) (n : ℕ) (f : ℕ → A) → ((x : A) → Memᴰ x (tabulate n f) → P x) ↔ ((i : ℕ) → i < n → P (f i))
  unfolding tabulate
  each_tabulate P zero f = (λ all. below_none (λ i. P (f i)), λ all x m. absurd (Memᴰ.not-nil m))
  each_tabulate P (suc n) f = (
    λ all i l.
        below_more (λ i. P (f i)) n ((each_tabulate P n f).0 (λ x m. all x (Memᴰ.append_left (f n ∷ []) m)))
        (all (f n) (Memᴰ.append_right (tabulate n f) (Memᴰ.head refl))) i (omega arith),
    λ all x m.
        ⊎_elim ((each_tabulate P n f).1 (λ i l. all i (omega arith)) x) (λ last. subst P (sym (Memᴰ.eq_of_singleton last)) (all n (omega arith)))
        (Memᴰ.append_cases (tabulate n f) m),
  )

  -- A repeated array.
  pub all_alike : (n : ℕ) (a : A) (f : ℕ → A) → ((i : ℕ) → i < n → a ≡ f i) → replicate n a ≡ tabulate n f
  all_alike n a f h = tabulated n f a (replicate n a) (length-replicate n a) (λ i l. get_or-replicate n i a a l ∙ h i l)

  -- One entry is stored.
  pub one_stored : (n : ℕ) (f g : ℕ → A) (i : ℕ) → i < n → ((j : ℕ) → j ≢ i → f j ≡ g j) → set (tabulate n f) i (g i) ≡ tabulate n g
  one_stored n f g i b h =
      tabulated n g (g i) (set (tabulate n f) i (g i)) (length-set (tabulate n f) i (g i) ∙ length_tabulate n f)
      (λ j l. at j l (ℕ_discrete j i))
    where
      at : (j : ℕ) → j < n → Dec (j ≡ i) → get_or (set (tabulate n f) i (g i)) j (g i) ≡ g j
      at j l (yes e) = rw e (get_or-set_same (tabulate n f) i (g i) (g i) (omega (arith, length_tabulate n f)))
      at j l (no e) = get_or-set_other (tabulate n f) i j (g i) (g i) e ∙ get_d_tabulate n f (g i) j l ∙ h j e

  -- The next entry is stored, where the list is filled from the front on.
  pub next_stored : (f : ℕ → A) (i : ℕ) (l : List A) → i < length l → set (tabulate i f ++ drop i l) i (f i) ≡ tabulate (i + 1) f ++ drop (i + 1) l
  unfolding tabulate
  next_stored f i l h =
      rw (add-one, drop-cons l i (f i) h, append_assoc)
      (set_at (tabulate i f) (get_or l i (f i)) (drop (suc i) l) (f i) i (length_tabulate i f))

  -- A list in two parts, one after the other.
  pub in_parts : (n k : ℕ) (f : ℕ → A) → tabulate (n + k) f ≡ tabulate n f ++ tabulate k (λ i. f (n + i))
  unfolding tabulate
  in_parts n zero f = rw add-zero (sym (append-nil (tabulate n f)))
  in_parts n (suc k) f = rw (add-suc, in_parts n k f, append_assoc)

  in_three : (a b n : ℕ) (f : ℕ → A) → a + b ≤ n
      → tabulate n f ≡ tabulate a f ++ (tabulate b (λ i. f (a + i)) ++ tabulate (n - (a + b)) (λ i. f (a + (b + i))))
  in_three a b n f h =
      let e : n ≡ a + (b + (n - (a + b))) = omega arith in
      ap (λ (k : ℕ). tabulate k f) e ∙ in_parts a (b + (n - (a + b))) f
      ∙ ap (λ (l : List A). tabulate a f ++ l) (in_parts b (n - (a + b)) (λ i. f (a + i)))

  -- The b entries from place a on are stored at once, as in a part that is lent.
  pub part_stored : (a b n : ℕ) (f g : ℕ → A) → a + b ≤ n → ((i : ℕ) → i < a → f i ≡ g i) → ((i : ℕ) → a + b ≤ i → f i ≡ g i)
      → take a (tabulate n f) ++ (tabulate b (λ i. g (a + i)) ++ drop b (drop a (tabulate n f))) ≡ tabulate n g
  part_stored a b n f g h low top =
      let x = tabulate a f in
      let y = tabulate b (λ i. f (a + i)) in
      let z = tabulate (n - (a + b)) (λ i. f (a + (b + i))) in
      let whole = in_three a b n f h in
      let rest : drop a (tabulate n f) ≡ y ++ z = ap (drop a) whole ∙ drop_at x (y ++ z) a (length_tabulate a f) in
      let front : take a (tabulate n f) ≡ tabulate a g = ap (take a) whole ∙ take_at x (y ++ z) a (length_tabulate a f) ∙ same_entries a f g low in
      let back : drop b (drop a (tabulate n f)) ≡ tabulate (n - (a + b)) (λ i. g (a + (b + i))) =
      ap (drop b) rest ∙ drop_at y z b (length_tabulate b (λ i. f (a + i)))
      ∙ same_entries (n - (a + b)) (λ i. f (a + (b + i))) (λ i. g (a + (b + i))) (λ i _. top (a + (b + i)) (omega arith))
      in
      rw (front, back) (sym (in_three a b n g h))

-- ---- marks at the places below i that pass a test, as a loop sets them that has passed i places

-- Only i is below i + 1 and not below i.
pub below_next : (j i : ℕ) → j ≢ i → ltb j i ≡ ltb j (i + 1)
below_next j i n =
    alike (ltb j i) (ltb j (i + 1)) (λ e. lt-ltb j (i + 1) (omega (arith, ltb-true j i e)))
    (λ e. lt-ltb j i (omega (arith, ltb-true j (i + 1) e)))

pub none_marked : (size : ℕ) (p : ℕ → Bool) → replicate size false ≡ tabulate size (λ j. ltb j 0 && p j)
none_marked size p = all_alike size false (λ j. ltb j 0 && p j) (λ j _. rw (le-ltb j 0 zero-le))

pub next_marked : (size : ℕ) (p : ℕ → Bool) (i : ℕ) → i < size
    → set (tabulate size (λ j. ltb j i && p j)) i (p i) ≡ tabulate size (λ j. ltb j (i + 1) && p j)
next_marked size p i h =
    ap (set (tabulate size (λ j. ltb j i && p j)) i) (rw (lt-ltb i (i + 1) (omega arith)))
    ∙ one_stored size (λ j. ltb j i && p j) (λ j. ltb j (i + 1) && p j) i h (λ j n. ap (λ b. b && p j) (below_next j i n))
