-- The marked sets as the iterator gives them, and what a reduction of them by a closure gives: what the sets of a list have in common.
-- From the library's laws of iterators, and the definitions, by induction on the list.
use Rattle.std.proofs.Common.{ℕ, ◌≡◌, refl, sym, ap, ◌∙◌, List, [], ◌∷◌, ◌++◌, Option, Some, None, bit_and, map-id}
use Rattle.std.specs.Option.{unwrap_or}
use Rattle.std.specs.List.{fold, reduce}
use Rattle.std.specs.Fn.{Called}
use Rattle.std.specs.Iterator.{YieldsFirst, FoldsItems, ReducesItems}
use denote.Param.Members.{Mut}
use Rattle.std.proofs.lemmas.List.Sums.{fold-append}
use Rattle.std.proofs.lemmas.Fn.{fold_same, fold_over}
use Rattle.std.proofs.lemmas.Iterator.{YieldsList, items_from_drains}
use Rattle.std.proofs.lemmas.Iterator.Consumers.{YieldsList-from_first}
use Rattle.sets.specs.Lists.{meet, common}
use Rattle.sets.specs.Next.{passing_from}
use Rattle.marks.specs.Marks.{marked}
use Rattle.marks.specs.declared.table.ByNumber.{ByNumber}

-- what the iterator has left
abbrev pub left : ByNumber → List ℕ
left s = passing_from (marked s.table.now) s.from s.end

pub in_turn : {s : ByNumber} {all : List ℕ} → left s ≡ all → YieldsList (YieldsFirst left) (λ x. x) s all
in_turn {s} {all} e = YieldsList-from_first (λ (x : ℕ). x) left all e

-- what holds of no set and stays when one more is folded in holds of all
pub folded : {S C F : Type 0} {steps : S → Option ℕ → S → Type 0} {s : S} {all : List ℕ} (g : Mut F (C × (ℕ × Unit {0})) C) (J : List ℕ → C → Type 0) {f : F} (init r : C)
    → FoldsItems steps g s f init r → YieldsList steps (λ x. x) s all
    → ((l : List ℕ) (a : C) (x : ℕ) (b : C) (q : F) → J l a → Called g f (a, (x, tt)) b q → J (l ++ x ∷ []) b × (q ≡ f)) → J [] init → J all r
folded {steps = steps} {s = s} {all = all} g J {f} init r d e step none = fold_over steps (λ x. x) g J f step s all init r e.runs none d

-- ---- in common

and_folded : (S : ℕ) (l : List ℕ) → fold bit_and S l ≡ meet S l
unfolding meet
and_folded S [] = refl
and_folded S (T ∷ l) = and_folded (bit_and S T) l

pub and_reduced : (l : List ℕ) → unwrap_or (reduce bit_and l) 0 ≡ common l
unfolding common
and_reduced [] = refl
and_reduced (S ∷ l) = and_folded S l

-- what a reduction gives, where the closure acts as the function h
module _ {S F : Type 0} {steps : S → Option ℕ → S → Type 0} {s : S} {all : List ℕ} (g : Mut F (ℕ × (ℕ × Unit {0})) ℕ) (h : ℕ → ℕ → ℕ) {f : F}
    (e : YieldsList steps (λ x. x) s all) (acts : (a x b : ℕ) (q : F) → Called g f (a, (x, tt)) b q → (q ≡ f) × (b ≡ h a x)) where
  pub reduced : (r : Option ℕ) → ReducesItems steps g s f r → r ≡ reduce h all
  reduced None d = ap (reduce h) (items_from_drains [] (d.1.0, d.1.1, λ _. (d.0, d.1.2)) e)
  reduced (Some y) d =
      let items : d.0 ∷ d.1 ≡ all = sym (map-id (d.0 ∷ d.1)) ∙ items_from_drains (d.0 ∷ d.1) (d.3.1.0, d.3.1.1, λ _. (d.3.0, d.3.1.2)) e in
      ap Some
      (fold_same g (λ ys c. c ≡ fold h d.0 ys) f
      (λ ys a x b q j k. let r = acts a x b q k in (r.1 ∙ ap (λ c. h c x) j ∙ sym (fold-append h d.0 ys (x ∷ [])), r.0))
      d.1 d.0 y d.2 refl d.4)
      ∙ ap (reduce h) items
