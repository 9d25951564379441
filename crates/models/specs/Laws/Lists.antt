-- Lists with one more element, and a text of which a part is known: what stands behind that part.
-- From the laws of lists.
use Rattle.std.specs.Prelude.{ℕ, suc, ◌+◌, ◌<◌, ◌≡◌, refl, length, get_or, take, drop}
use Rattle.std.proofs.Common.{sym, ap, ◌∙◌, arith, length-append, drop-drop}
use mathlib.Core.List.{List, [], ◌∷◌, ◌++◌, append-nil, append_assoc, flat_map}
use Rattle.std.proofs.Math.Decide.{dec_lt}
use Rattle.std.proofs.Math.ListN.{get_or-append}
use Rattle.std.proofs.Math.Seq.{split_at, drop-append_seam, get_or-append_seam}

-- ---- lists with one more element

-- what is true of each element and of one more is true of each
pub at_more : {A : Type 0} (P : ℕ → A → Type 0) (d : A) (l : List A) (a : A) → ((j : ℕ) → j < length l → P j (get_or l j d)) → P (length l) a
    → (j : ℕ) → j < length (l ++ a ∷ []) → P j (get_or (l ++ a ∷ []) j d)
at_more P d l a f p j h = go (dec_lt j (length l))
  where
    go : Dec (j < length l) → P j (get_or (l ++ a ∷ []) j d)
    go (yes k) = rw (get_or-append l (a ∷ []) d j k) (f j k)
    go (no k) =
        let q : j ≡ length l = omega (arith, length-append l (a ∷ [])) in
        rw (q, get_or-append_seam l a [] d) p

flat_map_append : {A : Type 0} (f : A → List ℕ) (s t : List A) → flat_map f (s ++ t) ≡ flat_map f s ++ flat_map f t
unfolding flat_map
flat_map_append f [] t = refl
flat_map_append f (x ∷ s) t = ap (λ r. f x ++ r) (flat_map_append f s t) ∙ sym (append_assoc (f x) (flat_map f s) (flat_map f t))

pub flat_map_more : {A : Type 0} (f : A → List ℕ) (s : List A) (a : A) → flat_map f (s ++ a ∷ []) ≡ flat_map f s ++ f a
unfolding flat_map
flat_map_more f s a = flat_map_append f s (a ∷ []) ∙ ap (λ r. flat_map f s ++ r) (append-nil (f a))

-- cut around the element at i
pub flat_map_at : {A : Type 0} (f : A → List ℕ) (l : List A) (i : ℕ) (d : A) → i < length l → flat_map f l ≡ flat_map f (take i l) ++ (f (get_or l i d) ++ flat_map f (drop (suc i) l))
unfolding flat_map
flat_map_at f l i d h = ap (flat_map f) (split_at l i d h) ∙ flat_map_append f (take i l) (get_or l i d ∷ drop (suc i) l)

-- what follows a part that begins at a place of the text
pub behind : (text : List ℕ) (at : ℕ) (part rest : List ℕ) → drop at text ≡ part ++ rest → drop (at + length part) text ≡ rest
behind text at part rest q = sym (drop-drop (length part) at text) ∙ ap (drop (length part)) q ∙ drop-append_seam part rest

-- what follows a front goes on with a part that stands there, and with what follows that
pub one_behind : (text : List ℕ) (at : ℕ) (s front part rest : List ℕ) → s ≡ front ++ drop at text → drop at text ≡ part ++ rest
    → s ≡ (front ++ part) ++ drop (at + length part) text
one_behind text at s front part rest p q =
    p ∙ ap (λ x. front ++ x) (q ∙ ap (λ x. part ++ x) (sym (behind text at part rest q))) ∙ sym (append_assoc front part (drop (at + length part) text))
