-- A run followed by its parents: it has at most 128 states, and its states are written from the end. From the laws of the runs that a list holds.
-- Assumes nothing.
use Prim.Native.Nat.{ℕ, zero, suc, ◌≤◌, ◌<◌}
use Rattle.std.specs.Prelude.{◌≡◌, Option, None, Some, MatchOption, length, get_or, reverse}
use Rattle.std.proofs.Math.Path.{refl}
use Rattle.std.proofs.Common.{sym, ap, ◌∙◌, arith, Bor}
use Rattle.std.specs.Slice.{IsItemAt}
use mathlib.Core.List.{List, [], ◌∷◌, ◌++◌}
use native.Mathlib.Decide.{dec_lt}
use Rattle.std.proofs.Math.ListN.{length-append, get_or-eq_default}
use Rattle.std.proofs.lemmas.List.{append_assoc, append-nil, length-reverse, reverse-append}
use Rattle.traces.specs.declared.runs.Run.{Run}
use Rattle.traces.specs.Stored.{no_run, before, runs_in, Chained}
use Rattle.traces.specs.Laws.Runs.{length_runs_in, chained_run}

-- ---- how long a run is

module _ {runs : List Run} (s : Chained runs) where
  run_past : (k : ℕ) → length runs ≤ k → get_or (runs_in runs) k [] ≡ []
  run_past k h = get_or-eq_default (runs_in runs) [] {n = k} (omega (arith, length_runs_in runs))

  -- Where the runs found earlier have no more states than their places allow, so has this one.
  no_longer : (k : ℕ) → k < length runs → ((p : ℕ) → p < k → length (get_or (runs_in runs) p []) ≤ suc p) → length (get_or (runs_in runs) k []) ≤ suc k
  unfolding before
  no_longer k g earlier = omega (arith, ap length (chained_run s k g), length-append (before (runs_in runs) r.parent) (r.last ∷ []), short r.parent refl)
    where
      r : Run
      r = get_or runs k no_run

      short : (parent : Option ℕ) → r.parent ≡ parent → length (before (runs_in runs) parent) ≤ k
      short None e = omega arith
      short (Some p) e = let l : p < k = s.earlier k p g e in omega (arith, earlier p l)

  shorter : (n k : ℕ) → k < n → k < length runs → length (get_or (runs_in runs) k []) ≤ suc k
  shorter zero k h g = absurd (omega arith)
  shorter (suc n) k h g = no_longer k g (λ p l. shorter n p (omega arith) (omega arith))

  pub run_short : (k : ℕ) → length (get_or (runs_in runs) k []) ≤ 128
  run_short k = go (dec_lt k (length runs))
    where
      go : Dec (k < length runs) → length (get_or (runs_in runs) k []) ≤ 128
      go (yes h) = omega (arith, shorter (suc k) k (omega arith) h, s.few)
      go (no h) = omega (arith, ap length (run_past k (omega arith)))

-- ---- a run written from its end

-- The states that are still to be written, where this run is in hand.
abbrev pub left_of : List Run → Option (Bor Run) → List ℕ
left_of runs None = []
left_of runs (Some r) = before (runs_in runs) r.now.parent ++ (r.now.last ∷ [])

pub left_at : {runs : List Run} → Chained runs → (k : ℕ) (r : Option (Bor Run)) → IsItemAt runs k r → left_of runs r ≡ get_or (runs_in runs) k []
left_at s k None f = sym (run_past s k f.3)
left_at s k (Some r) f = rw (f.4 (omega arith) no_run) (sym (chained_run s k f.3.0))

pub left_before : {runs : List Run} → Chained runs → (parent : Option ℕ) (r : Option (Bor Run)) → MatchOption parent (r ≡ None) (λ p. IsItemAt runs p r)
    → left_of runs r ≡ before (runs_in runs) parent
unfolding before
left_before s None r e = rw e refl
left_before s (Some p) r f = left_at s p r f

-- The states of l behind those that are left are written, the last one first.
abbrev pub Writes : (l left back : List ℕ) → Type 0
Writes l left back = left ++ reverse back ≡ l

pub writes_none : {l left : List ℕ} → left ≡ l → Writes l left []
writes_none {l} {left} e = append-nil left ∙ e

module _ (runs : List Run) {l : List ℕ} (short : length l ≤ 128) {next : Option (Bor Run)} (back : List ℕ) (w : Writes l (left_of runs next) back) where
  module _ {r : Bor Run} (e : next ≡ Some r) where
    whole : (before (runs_in runs) r.now.parent ++ (r.now.last ∷ [])) ++ reverse back ≡ l
    whole = rw e at w

    pub writes_room : length back < 128
    writes_room =
        omega (
          arith,
          short,
          ap length whole,
          length-append (before (runs_in runs) r.now.parent ++ (r.now.last ∷ [])) (reverse back),
          length-append (before (runs_in runs) r.now.parent) (r.now.last ∷ []),
          length-reverse back,
        )

    pub writes_more : (after : Option (Bor Run)) → left_of runs after ≡ before (runs_in runs) r.now.parent
        → Writes l (left_of runs after) (back ++ (r.now.last ∷ []))
    writes_more after f = rw (f, reverse-append) (sym (append_assoc (before (runs_in runs) r.now.parent) (r.now.last ∷ []) (reverse back)) ∙ whole)

  pub writes_all : next ≡ None → reverse back ≡ l
  writes_all e = rw e at w
