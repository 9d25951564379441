-- The order in which a breadth-first search finds runs: shorter ones first, and those of one length by the first place where they differ.
-- It is transitive and kept when a state is added to both lists; and what adding a state keeps is true of every walk.
-- From the meanings in `System`. Assumes nothing.
use Rattle.std.specs.Prelude.{ℕ, zero, ◌+◌, ◌≤◌, ◌<◌, ◌≡◌, ◌⊎◌, Bool, true, false, List, [], ◌∷◌, ◌++◌, ltb, length, get_or}
use Rattle.std.proofs.Common.{sym, ap, ◌∙◌, inl, inr, ⊎_elim, eq-or-lt_of_le, arith, ltb-true, ltb-false, length-append}
use mathlib.Mathlib.Data.Bool.Basic.{dichotomy}
use Rattle.std.proofs.Math.ListN.{get_or-append}
use Rattle.std.proofs.Math.Seq.{append_snoc, get_or-append_seam}
use Rattle.systems.specs.System.{System, last, Walk, Earlier}
use Rattle.systems.specs.Laws.Walks.{walk_rest, last_snoc}

-- l is no longer than m, and earlier where they have one length.
pub record Sooner (l m : List ℕ) : Type 0 where
  pub shorter : length l ≤ length m
  pub earlier : length l ≡ length m → Earlier l m

-- l is m, or sooner.
abbrev pub NoLater : List ℕ → List ℕ → Type 0
NoLater l m = (l ≡ m) ⊎ Sooner l m

earlier_trans : {l m n : List ℕ} → Earlier l m → Earlier m n → Earlier l n
earlier_trans {l} {m} {n} a b = ⊎_elim right left (dichotomy (ltb a.place b.place))
  where
    left : ltb a.place b.place ≡ true → Earlier l n
    left e =
        let h : a.place < b.place = ltb-true a.place b.place e in
        record {
          place = a.place;
          within = a.within;
          before = λ i g. a.before i g ∙ b.before i (omega arith);
          smaller = omega (arith, a.smaller, b.before a.place h);
        }

    no_larger : b.place ≤ a.place → get_or l b.place 0 ≤ get_or m b.place 0
    no_larger h =
        ⊎_elim (λ e. rw e (omega (arith, a.smaller))) (λ g. omega (arith, a.before b.place g)) (eq-or-lt_of_le h)

    right : ltb a.place b.place ≡ false → Earlier l n
    right e =
        let h : b.place ≤ a.place = ltb-false a.place b.place e in
        record {
          place = b.place;
          within = omega (arith, a.within);
          before = λ i g. a.before i (omega arith) ∙ b.before i g;
          smaller = omega (arith, no_larger h, b.smaller);
        }

pub sooner_trans : {l m n : List ℕ} → Sooner l m → Sooner m n → Sooner l n
sooner_trans a b = record {
  shorter = omega (arith, a.shorter, b.shorter);
  earlier = λ e. earlier_trans (a.earlier (omega (arith, a.shorter, b.shorter))) (b.earlier (omega (arith, a.shorter, b.shorter)));
}

pub no_later_trans : {l m n : List ℕ} → NoLater l m → NoLater m n → NoLater l n
no_later_trans (inl e) g = rw e g
no_later_trans (inr f) (inl e) = inr (rw e at f)
no_later_trans (inr f) (inr g) = inr (sooner_trans f g)

pub no_later_length : {l m : List ℕ} → NoLater l m → length l ≤ length m
no_later_length (inl e) = omega (arith, ap length e)
no_later_length (inr a) = a.shorter

pub no_later_first : {l m : List ℕ} → NoLater l m → length l ≡ length m → (l ≡ m) ⊎ Earlier l m
no_later_first (inl e) h = inl e
no_later_first (inr a) h = inr (a.earlier h)

-- With a state added to each, a list that was sooner is sooner still, whatever the states;
pub sooner_snoc : {l m : List ℕ} (t u : ℕ) → Sooner l m → Sooner (l ++ (t ∷ [])) (m ++ (u ∷ []))
sooner_snoc {l} {m} t u a = record { shorter = simp length-append (omega (arith, a.shorter)); earlier = λ e. longer (simp length-append at e) }
  where
    longer : length l + 1 ≡ length m + 1 → Earlier (l ++ (t ∷ [])) (m ++ (u ∷ []))
    longer e =
        let b : Earlier l m = a.earlier (omega arith) in
        record {
          place = b.place;
          within = simp length-append (omega (arith, b.within));
          before = λ i g. same i (omega (arith, b.within)) ∙ b.before i g ∙ sym (also i (omega (arith, b.within)));
          smaller = omega (arith, same b.place b.within, also b.place (omega (arith, b.within)), b.smaller);
        }
      where
        same : (i : ℕ) → i < length l → get_or (l ++ (t ∷ [])) i 0 ≡ get_or l i 0
        same = get_or-append l (t ∷ []) 0

        also : (i : ℕ) → i < length m → get_or (m ++ (u ∷ [])) i 0 ≡ get_or m i 0
        also = get_or-append m (u ∷ []) 0

pub no_later_snoc : {l m : List ℕ} (t : ℕ) → NoLater l m → NoLater (l ++ (t ∷ [])) (m ++ (t ∷ []))
no_later_snoc t (inl e) = inl (ap (λ k. k ++ (t ∷ [])) e)
no_later_snoc t (inr a) = inr (sooner_snoc t t a)

-- and of two lists that differ in the last state alone, the one with the smaller state is sooner.
pub sooner_last : (l : List ℕ) {t u : ℕ} → t < u → Sooner (l ++ (t ∷ [])) (l ++ (u ∷ []))
sooner_last l {t} {u} h = record { shorter = simp length-append (omega arith); earlier = λ _. last_place }
  where
    last_place : Earlier (l ++ (t ∷ [])) (l ++ (u ∷ []))
    last_place = record {
      place = length l;
      within = simp length-append (omega arith);
      before = λ i g. rw (get_or-append, get_or-append);
      smaller = omega (arith, get_or-append_seam l t [] 0, get_or-append_seam l u [] 0);
    }

-- What is true of the lists of one first state, and kept when a state is added that is a step away, is true of every walk.
module _ (M : System) (P : List ℕ → Type 0)
    (kept : (l : List ℕ) (t : ℕ) → t < M.size → P l → M.step (last l) t ≡ true → P (l ++ (t ∷ []))) where
  grown : (p : List ℕ) (from : ℕ → Bool) → ((s : ℕ) → s < M.size → from s ≡ true → P (p ++ (s ∷ [])))
      → (l : List ℕ) → Walk M from l → P (p ++ l)
  grown p from begun [] w = absurd (omega (arith, w.nonempty))
  grown p from begun (s ∷ []) w = begun s (w.states zero (omega arith)) w.first
  grown p from begun (s ∷ t ∷ l) w =
      rw (← append_snoc) (grown (p ++ (s ∷ [])) (M.step s)
      (λ u h e. kept (p ++ (s ∷ [])) u h (begun s (w.states zero (omega arith)) w.first) (ap (λ v. M.step v u) (last_snoc p s) ∙ e))
      (t ∷ l) (walk_rest w))

  pub walk_grows : (from : ℕ → Bool) → ((s : ℕ) → s < M.size → from s ≡ true → P (s ∷ [])) → (l : List ℕ) → Walk M from l → P l
  walk_grows = grown []
