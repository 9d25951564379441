-- The rules that a set keeps, numbered anew from 0 in their order: the way back from the new numbers to the old ones, of a rule, of a set and of a
-- judgement; and tests of the entries that are kept. Assumes nothing: these are definitions.
use Rattle.std.specs.Prelude.{ℕ, zero, suc, ◌+◌, ◌*◌, ◌/◌, ◌%◌, Bool, true, ◌&&◌, cond, List, [], ◌∷◌}
use Rattle.sets.specs.Bit.{has}
use Rattle.sets.specs.Kept.{kept}

-- The old number of rule i of those that the set U of R rules keeps.
unfoldable pub old_place : ℕ → ℕ → ℕ → ℕ
unfolding has
old_place zero U i = i
old_place (suc R) U zero = let later = suc (old_place R (U / 2) zero) in cond (has U 0) 0 later
old_place (suc R) U (suc i) =
    let here = old_place R (U / 2) i in
    let later = old_place R (U / 2) (suc i) in
    suc (cond (has U 0) here later)

-- A set S of the rules that the set U of R rules keeps, by their new numbers: the same rules by their old numbers.
unfoldable pub spread : ℕ → ℕ → ℕ → ℕ
unfolding has
spread zero U S = 0
spread (suc R) U S =
    let here = S % 2 + 2 * spread R (U / 2) (S / 2) in
    let later = 2 * spread R (U / 2) S in
    cond (has U 0) here later

-- A judgement of the sets of R rules, for the sets of the rules that U keeps, by their new numbers.
abbrev pub renumbered : ℕ → ℕ → (ℕ → Bool) → ℕ → Bool
renumbered R U h S = h (spread R U S)

-- Every entry of a list passes the test f.
unfoldable pub all_pass : {A : Type 0} → (A → Bool) → List A → Bool
all_pass f [] = true
all_pass f (x ∷ l) = let rest = all_pass f l in f x && rest

-- Every entry whose place is in the set S passes the test f.
unfoldable pub all_in : {A : Type 0} → (A → Bool) → ℕ → List A → Bool
unfolding all_pass kept
all_in f S l = all_pass f (kept S l)
