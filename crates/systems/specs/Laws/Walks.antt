-- Laws of the meanings in `System`: how a walk is built and taken apart at its first state, that the reached states are the least set
-- with the start states and closed under steps, and that the order on lists is strict. Assumes nothing.
use Prim.Native.Nat.{ℕ, zero, suc, ◌<◌}
use Rattle.std.specs.Prelude.{◌≡◌, ◌⊎◌, Bool, true, length, get_or}
use Rattle.std.proofs.Math.Path.{refl}
use Rattle.std.proofs.Common.{sym, ap, subst, ◌∙◌, inl, inr, true≢false, arith}
use mathlib.Core.List.{List, [], ◌∷◌, ◌++◌}
use mathlib.Mathlib.Data.Bool.Basic.{eq-false_of_not-eq-true}
use Rattle.systems.specs.System.{System, last, Walk, BadWalk, Breach, Reached, Holds, Earlier}

-- A walk is one state, or a state and a walk from the states one step away.
module _ {M : System} {from : ℕ → Bool} {s : ℕ} (state : s < M.size) (among : from s ≡ true) where
  pub walk_one : Walk M from (s ∷ [])
  walk_one = record { nonempty = omega arith; states = places; first = among; steps = λ i h. absurd (omega arith) }
    where
      places : (i : ℕ) → i < 1 → get_or (s ∷ []) i 0 < M.size
      places zero h = state
      places (suc i) h = absurd (omega arith)

  pub walk_cons : {l : List ℕ} → Walk M (M.step s) l → Walk M from (s ∷ l)
  walk_cons {l} w = record { nonempty = omega arith; states = places; first = among; steps = pairs }
    where
      places : (i : ℕ) → i < suc (length l) → get_or (s ∷ l) i 0 < M.size
      places zero h = state
      places (suc i) h = w.states i (omega arith)

      pairs : (i : ℕ) → suc i < suc (length l) → M.step (get_or (s ∷ l) i 0) (get_or l i 0) ≡ true
      pairs zero h = w.first
      pairs (suc i) h = w.steps i (omega arith)

pub walk_rest : {M : System} {from : ℕ → Bool} {s t : ℕ} {l : List ℕ} → Walk M from (s ∷ t ∷ l) → Walk M (M.step s) (t ∷ l)
walk_rest w = record {
  nonempty = omega arith;
  states = λ i h. w.states (suc i) (omega arith);
  first = w.steps zero (omega arith);
  steps = λ i h. w.steps (suc i) (omega arith);
}

pub last_cons : (s : ℕ) (l : List ℕ) → 0 < length l → last (s ∷ l) ≡ last l
unfolding last
last_cons s [] h = absurd (omega arith)
last_cons s (t ∷ l) h = refl

pub badwalk_rest : {M : System} {from : ℕ → Bool} {s t : ℕ} {l : List ℕ} → BadWalk M from (s ∷ t ∷ l) → BadWalk M (M.step s) (t ∷ l)
unfolding last
badwalk_rest b = record { walk = walk_rest b.walk; ends = b.ends }

-- A walk goes on by a step from its last state.
pub walk_snoc : {M : System} {from : ℕ → Bool} (l : List ℕ) {t : ℕ} → Walk M from l → t < M.size → M.step (last l) t ≡ true
    → Walk M from (l ++ (t ∷ []))
unfolding last
walk_snoc [] w h e = absurd (omega (arith, w.nonempty))
walk_snoc (s ∷ []) w h e = walk_cons (w.states zero (omega arith)) w.first (walk_one h e)
walk_snoc (s ∷ u ∷ l) w h e = walk_cons (w.states zero (omega arith)) w.first (walk_snoc (u ∷ l) (walk_rest w) h e)

pub last_snoc : (l : List ℕ) (t : ℕ) → last (l ++ (t ∷ [])) ≡ t
unfolding last
last_snoc [] t = refl
last_snoc (s ∷ []) t = refl
last_snoc (s ∷ u ∷ l) t = last_snoc (u ∷ l) t

-- The start states are reached, and so is every step's end from a reached state.
module _ {M : System} where
  pub reached_start : {s : ℕ} → s < M.size → M.start s ≡ true → Reached M s
  unfolding last
  reached_start {s} h e = record { path = s ∷ []; run = walk_one h e; ends = refl }

  pub reached_step : {s t : ℕ} → Reached M s → t < M.size → M.step s t ≡ true → Reached M t
  reached_step {s} {t} r h e = record {
    path = r.path ++ (t ∷ []);
    run = walk_snoc r.path r.run h (ap (λ u. M.step u t) r.ends ∙ e);
    ends = last_snoc r.path t;
  }

-- What is true of the first states and kept by steps is true of a walk's last state.
module _ (M : System) (P : ℕ → Type 0) (kept : (s t : ℕ) → s < M.size → t < M.size → P s → M.step s t ≡ true → P t) where
  walk_ends : (from : ℕ → Bool) → ((s : ℕ) → s < M.size → from s ≡ true → P s) → (l : List ℕ) → Walk M from l → P (last l)
  unfolding last
  walk_ends from begun [] w = absurd (omega (arith, w.nonempty))
  walk_ends from begun (s ∷ []) w = begun s (w.states zero (omega arith)) w.first
  walk_ends from begun (s ∷ t ∷ l) w =
      let h : s < M.size = w.states zero (omega arith) in
      walk_ends (M.step s) (λ u g e. kept s u h g (begun s h w.first) e) (t ∷ l) (walk_rest w)

-- The reached states are the least set with these two laws: what is true of the start states and kept by steps is true of them.
pub reached_least : (M : System) (P : ℕ → Type 0)
    → ((s : ℕ) → s < M.size → M.start s ≡ true → P s)
    → ((s t : ℕ) → s < M.size → t < M.size → P s → M.step s t ≡ true → P t)
    → (s : ℕ) → Reached M s → P s
reached_least M P begun kept s r = subst P r.ends (walk_ends M P kept M.start begun r.path r.run)

pub walk_last : {M : System} {from : ℕ → Bool} (l : List ℕ) → Walk M from l → last l < M.size
walk_last {M} {from} = walk_ends M (λ s. s < M.size) (λ s t _ h _ _. h) from (λ s h _. h)

-- A system holds exactly if it has no breach.
pub holds_no_breach : {M : System} → Holds M → (l : List ℕ) → Breach M l → ⊥
holds_no_breach h l b = true≢false (sym b.ends ∙ h.good (last l) (record { path = l; run = b.walk; ends = refl }))

pub no_breach_holds : {M : System} → ((l : List ℕ) → Breach M l → ⊥) → Holds M
no_breach_holds {M} none = record {
  good = λ s r. eq-false_of_not-eq-true (λ e. none r.path (record { walk = r.run; ends = ap M.bad r.ends ∙ e }));
}

-- The order looks at the first states, and then at the rest.
pub earlier_head : {s t : ℕ} {l m : List ℕ} → s < t → Earlier (s ∷ l) (t ∷ m)
earlier_head h = record { place = zero; within = omega arith; before = λ i g. absurd (omega arith); smaller = h }

pub earlier_rest : {s : ℕ} {l m : List ℕ} → (l ≡ m) ⊎ Earlier l m → (s ∷ l ≡ s ∷ m) ⊎ Earlier (s ∷ l) (s ∷ m)
earlier_rest {s} (inl e) = inl (ap (λ k. s ∷ k) e)
earlier_rest {s} {l} {m} (inr r) =
    inr (record { place = suc r.place; within = omega (arith, r.within); before = places; smaller = r.smaller })
  where
    places : (i : ℕ) → i < suc r.place → get_or (s ∷ l) i 0 ≡ get_or (s ∷ m) i 0
    places zero h = refl
    places (suc i) h = r.before i (omega arith)

pub earlier_asym : {l m : List ℕ} → Earlier l m → Earlier m l → ⊥
earlier_asym {l} {m} a b =
    let not_first : ¬ (a.place < b.place) = λ h. omega (arith, a.smaller, b.before a.place h) in
    let not-later : ¬ (b.place < a.place) = λ h. omega (arith, b.smaller, a.before b.place h) in
    let e : a.place ≡ b.place = omega arith in
    omega (arith, a.smaller, b.smaller, ap (λ i. get_or l i 0) e, ap (λ i. get_or m i 0) e)
