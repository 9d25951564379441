-- A loop that puts something for each entry of a list: what is known after i turns. From the laws of a page. Assumes nothing.
use Rattle.std.specs.Prelude.{ℕ, suc, ◌+◌, ◌≤◌, ◌<◌, ◌≡◌, refl, get_or}
use Rattle.std.proofs.Common.{sym, ◌∙◌, arith, drop-cons}
use Rattle.std.proofs.Math.Path.{ap}
use mathlib.Core.List.{List, [], ◌∷◌, ◌++◌, flat_map}
use Rattle.std.proofs.Math.Numerals.{add-one}
use Rattle.std.proofs.Math.ListN.{length, drop}
use Rattle.std.proofs.Math.Seq.{drop-length}
use Rattle.lines.specs.Written.{line}
use Rattle.pages.specs.Page.{Page, put_byte, put}
use Rattle.pages.specs.Laws.Page.{put_append, length_put}

-- Once the entries from i on are put as well, the page p is what it becomes in the end.
pub record Putting (f : ℕ → List ℕ) (l : List ℕ) (p₀ p : Page) (i : ℕ) : Type 0 where
  pub within : i ≤ length l
  pub rest : put (flat_map f (drop i l)) p ≡ put (flat_map f l) p₀
  pub size : length p.bytes ≡ length p₀.bytes

pub started : (f : ℕ → List ℕ) (l : List ℕ) (p : Page) → Putting f l p p 0
started f l p = record { within = omega arith; rest = refl; size = refl }

module _ (f : ℕ → List ℕ) (l : List ℕ) (p₀ p : Page) (i : ℕ) (w : Putting f l p₀ p i) where
  pub next : i < length l → (q : Page) → q ≡ put (f (get_or l i 0)) p → Putting f l p₀ q (i + 1)
  unfolding flat_map
  next h q e =
      record {
        within = omega arith;
        rest =
            rw (e, add-one i, ← put_append (f (get_or l i 0)) (flat_map f (drop (suc i) l)) p)
            (ap (λ m. put (flat_map f m) p) (sym (drop-cons l i 0 h)) ∙ w.rest);
        size = ap (λ r. length r.bytes) e ∙ length_put (f (get_or l i 0)) p ∙ w.size;
      }

  pub ended : length l ≤ i → p ≡ put (flat_map f l) p₀
  unfolding flat_map put
  ended h =
      let e : i ≡ length l = omega (arith, w.within) in
      ap (λ m. put (flat_map f m) p) (sym (ap (λ n. drop n l) e ∙ drop-length l)) ∙ w.rest

-- ---- one after the other

-- a line: its key, its value and byte 10
line_put : (key value : List ℕ) (p : Page) → put_byte 10 (put value (put key p)) ≡ put (line key value) p
unfolding line put
line_put key value p = sym (put_append key (value ++ 10 ∷ []) p ∙ put_append value (10 ∷ []) (put key p))

pub line_made : (key value : List ℕ) (p q r s : Page) → q ≡ put key p → r ≡ put value q → s ≡ put_byte 10 r → s ≡ put (line key value) p
line_made key value p q r s e f g = g ∙ ap (put_byte 10) (f ∙ ap (put value) e) ∙ line_put key value p

-- the same text in other words
pub put_as : (l m : List ℕ) (p q : Page) → q ≡ put l p → l ≡ m → q ≡ put m p
put_as l m p q e same = e ∙ ap (λ k. put k p) same

-- two texts
pub both_put : (l m : List ℕ) (p q r : Page) → q ≡ put l p → r ≡ put m q → r ≡ put (l ++ m) p
both_put l m p q r e f = f ∙ ap (put m) e ∙ sym (put_append l m p)

-- the bytes of a list, one by one
pub single_bytes : (l : List ℕ) → flat_map (λ b. b ∷ []) l ≡ l
unfolding flat_map
single_bytes [] = refl
single_bytes (b ∷ l) = ap (λ m. b ∷ m) (single_bytes l)
