-- The laws of a log: that the functions which compute give what a log says, how it is found step by step, when bytes are a log, and that rules and bad
-- states which agree on the log's states give the same. From the laws of sets and of least numbers. Assumes nothing.
use Rattle.std.specs.Prelude.{ℕ, suc, ◌+◌, ◌≤◌, ◌<◌, ◌≡◌, ◌↔◌, Bool, true, false, ◌||◌, List, Option, Some, None, IfSome, IfNone, cond, leb, ltb, length, get_or}
use Rattle.std.specs.List.{position_or_len}
use Rattle.std.proofs.Math.Path.{refl, sym, ap, ap₂}
use Rattle.std.proofs.Common.{◌∙◌, arith, ltb-true, ltb-false, lt-ltb, le-ltb, le-leb}
use Rattle.std.proofs.Math.Logic.{⊎_elim}
use Rattle.std.proofs.Math.Bool.{not, or-false, or_assoc, and-eq-true_iff}
use Rattle.std.proofs.lemmas.List.Sums.{position_or_len_is, prefix_len-le-length, fails_before_first, passes_at_first}
use Rattle.std.proofs.lemmas.Bool.{false≢true, lt-leb, not-true}
use mathlib.Mathlib.Data.Bool.Basic.{or_inr}
use Rattle.sets.specs.Bit.{has}
use Rattle.sets.specs.Gathered.{set_of}
use Rattle.sets.specs.Laws.Bit.{has_below}
use Rattle.sets.specs.Laws.Choice.{either}
use Rattle.sets.specs.Laws.Gathered.{set_of_lt, has_set_of, set_of_same}
use Rattle.systems.specs.Least.{least, any}
use Rattle.systems.specs.Laws.Least.{any_intro, any_elim, any_none, any_same, any_next}
use Rattle.logs.specs.Log.{IsLog, is_log, BrokenIn, broken_at_start, broken_at_step, LogSays, is_broken, neighbours, blamed_set, breach_place, blame_of}

-- ---- what a log says

-- Place k is that of the first of two neighbours.
pub neighbours_iff : (log : List ℕ) (k : ℕ) → (k < neighbours log) ↔ (suc k < length log)
unfolding neighbours
neighbours_iff log k = (λ h. omega arith, λ h. omega arith)

module _ (start_met : ℕ → ℕ → Bool) (step_met : ℕ → ℕ → ℕ → Bool) (log : List ℕ) where
  abbrev pub fails : ℕ → ℕ → Bool
  fails i k = not (step_met i (get_or log k 0) (get_or log (suc k) 0))

  -- A rule is broken nowhere but in the first state and between neighbours,
  broken_only : (i : ℕ) → is_broken start_met step_met log (neighbours log) i ≡ true → BrokenIn start_met step_met log i
  unfolding is_broken
  broken_only i e =
      ⊎_elim
      (λ f. broken_at_start (not-true _ f))
      (λ f. let w = any_elim (neighbours log) (fails i) f in broken_at_step (least (neighbours log) (fails i)) ((neighbours_iff log _).0 w.0) (not-true _ w.1))
      (either (not (start_met i (get_or log 0 0))) (any (neighbours log) (fails i)) e)

  -- and it is where its step part fails there, or its start part.
  broken_step : (i k : ℕ) → suc k < length log → step_met i (get_or log k 0) (get_or log (suc k) 0) ≡ false → is_broken start_met step_met log (neighbours log) i ≡ true
  unfolding is_broken
  broken_step i k h e =
      or_inr (not (start_met i (get_or log 0 0))) (any (neighbours log) (fails i)) (any_intro (neighbours log) (fails i) k ((neighbours_iff log k).1 h) (ap not e))

  broken_start : (i : ℕ) → start_met i (get_or log 0 0) ≡ false → is_broken start_met step_met log (neighbours log) i ≡ true
  unfolding is_broken
  broken_start i e = rw e

-- The place of a bad state that has none before it, if there is one.
pub record FirstBad (bad : ℕ → Bool) (log : List ℕ) (breach : Option ℕ) : Type 0 where
  pub within : IfSome breach (λ place. place < length log)
  pub breaks : IfSome breach (λ place. bad (get_or log place 0) ≡ true)
  pub before : IfSome breach (λ place. (k : ℕ) → k < place → bad (get_or log k 0) ≡ false)
  pub none : IfNone breach ((k : ℕ) → k < length log → bad (get_or log k 0) ≡ false)

module _ (R : ℕ) (start_met : ℕ → ℕ → Bool) (step_met : ℕ → ℕ → ℕ → Bool) (bad : ℕ → Bool) (log : List ℕ) where
  -- So it is one of the blamed ones wherever a part of it fails,
  blamed_step : (i k : ℕ) → i < R → suc k < length log → step_met i (get_or log k 0) (get_or log (suc k) 0) ≡ false → has (blame_of R start_met step_met bad log).set i ≡ true
  unfolding blame_of blamed_set
  blamed_step i k l h e = has_set_of R (is_broken start_met step_met log (neighbours log)) i l ∙ broken_step start_met step_met log i k h e

  blamed_start : (i : ℕ) → i < R → start_met i (get_or log 0 0) ≡ false → has (blame_of R start_met step_met bad log).set i ≡ true
  unfolding blame_of blamed_set
  blamed_start i l e = has_set_of R (is_broken start_met step_met log (neighbours log)) i l ∙ broken_start start_met step_met log i e

  -- and no other rule is.
  blamed_only : (i : ℕ) → has (blame_of R start_met step_met bad log).set i ≡ true → (i < R) × BrokenIn start_met step_met log i
  unfolding blame_of blamed_set
  blamed_only i e =
      let broken = is_broken start_met step_met log (neighbours log) in
      let l = has_below R (set_of R broken) i (set_of_lt R broken) e in
      (l, broken_only start_met step_met log i (sym (has_set_of R broken i l) ∙ e))

  -- The place is that of the first bad state.
  place_first : FirstBad bad log (breach_place bad log)
  unfolding breach_place
  place_first = go (ltb first (length log)) refl
    where
      first : ℕ
      first = position_or_len bad log

      go : (b : Bool) → ltb first (length log) ≡ b → FirstBad bad log (cond b (Some first) None)
      go true e = record {
        within = ltb-true first (length log) e;
        breaks = passes_at_first bad log 0 (ltb-true first (length log) e);
        before = λ k h. fails_before_first bad log k 0 h;
        none = tt;
      }
      go false e = record {
        within = tt;
        breaks = tt;
        before = tt;
        none = λ k h. fails_before_first bad log k 0 (omega (arith, ltb-false first (length log) e));
      }

  pub log_says : LogSays R start_met step_met bad log (blame_of R start_met step_met bad log)
  unfolding blame_of
  log_says = record {
    at_start = blamed_start;
    at_step = blamed_step;
    only = blamed_only;
    within = place_first.within;
    breaks = place_first.breaks;
    before = place_first.before;
    none = place_first.none;
  }

-- And where that is said of a place, or of none, it is what is found.
pub is_breach_place : (bad : ℕ → Bool) (log : List ℕ) (breach : Option ℕ) → FirstBad bad log breach → breach ≡ breach_place bad log
unfolding breach_place
is_breach_place bad log (Some place) f =
    let found : position_or_len bad log ≡ place = position_or_len_is bad log place 0 (omega (arith, f.within)) f.before (λ _. f.breaks) in
    rw (found, lt-ltb place (length log) f.within)
is_breach_place bad log None f =
    let found : position_or_len bad log ≡ length log = position_or_len_is bad log (length log) 0 (omega arith) f.none (λ h. absurd (omega arith)) in
    rw (found, le-ltb (length log) (length log) (omega arith))

-- Bad states that agree on the log have the same first place.
position_same : (bad bad₁ : ℕ → Bool) (log : List ℕ) → ((k : ℕ) → k < length log → bad (get_or log k 0) ≡ bad₁ (get_or log k 0))
    → position_or_len bad log ≡ position_or_len bad₁ log
position_same bad bad₁ log same =
    let m : ℕ = position_or_len bad₁ log in
    let within : m ≤ length log = prefix_len-le-length (λ s. not (bad₁ s)) log in
    position_or_len_is bad log m 0 within
    (λ k h. same k (omega arith) ∙ fails_before_first bad₁ log k 0 h)
    (λ h. same m h ∙ passes_at_first bad₁ log 0 h)

-- ---- how it is found step by step

module _ (start_met : ℕ → ℕ → Bool) (step_met : ℕ → ℕ → ℕ → Bool) (log : List ℕ) (i : ℕ) where
  -- Before any pair of neighbours a rule is broken by its start part alone,
  pub broken_first : is_broken start_met step_met log 0 i ≡ not (start_met i (get_or log 0 0))
  unfolding is_broken
  broken_first =
      ap (λ b. not (start_met i (get_or log 0 0)) || b) (any_none 0 (fails start_met step_met log i) (λ k h. absurd (omega arith)))
      ∙ or-false (not (start_met i (get_or log 0 0)))

  -- and with each pair by its step part, too.
  pub broken_next : (k : ℕ) → is_broken start_met step_met log (k + 1) i ≡ (is_broken start_met step_met log k i || fails start_met step_met log i k)
  unfolding is_broken
  broken_next k =
      ap (λ b. not (start_met i (get_or log 0 0)) || b) (sym (any_next k (fails start_met step_met log i)))
      ∙ sym (or_assoc (not (start_met i (get_or log 0 0))) (any k (fails start_met step_met log i)) (fails start_met step_met log i k))

pub both_said : (R : ℕ) (start_met : ℕ → ℕ → Bool) (step_met : ℕ → ℕ → ℕ → Bool) (bad : ℕ → Bool) (log : List ℕ) {B : ℕ} {breach : Option ℕ}
    → B ≡ blamed_set R start_met step_met log → breach ≡ breach_place bad log → record { set = B; breach = breach } ≡ blame_of R start_met step_met bad log
unfolding blame_of
both_said R start_met step_met bad log e f = ap₂ (λ (B : ℕ) (p : Option ℕ). record { set = B; breach = p }) e f

-- ---- when bytes are a log

pub is_log_iff : (n : ℕ) (log : List ℕ) → (is_log n log ≡ true) ↔ IsLog n log
unfolding is_log
is_log_iff n log = (
  λ e.
      let b = both.0 e in
      record {
        nonempty = ltb-true 0 (length log) b.0;
        states = λ k h. below k h (not-true _ b.1);
      },
  λ l. both.1 (lt-ltb 0 (length log) l.nonempty, ap not (any_none (length log) beyond (λ k h. lt-leb n (get_or log k 0) (l.states k h)))),
)
  where
    beyond : ℕ → Bool
    beyond k = leb n (get_or log k 0)

    both : (is_log n log ≡ true) ↔ ((ltb 0 (length log) ≡ true) × (not (any (length log) beyond) ≡ true))
    both = and-eq-true_iff (ltb 0 (length log)) (not (any (length log) beyond))

    below : (k : ℕ) → k < length log → any (length log) beyond ≡ false → get_or log k 0 < n
    below k h e =
        let not_beyond : ¬ (n ≤ get_or log k 0) = λ b. false≢true (sym e ∙ any_intro (length log) beyond k h (le-leb n (get_or log k 0) b)) in
        omega arith

pub log_or_not : (n : ℕ) (log : List ℕ) → Dec (IsLog n log)
log_or_not n log = go (is_log n log) refl
  where
    go : (b : Bool) → is_log n log ≡ b → Dec (IsLog n log)
    go true e = yes ((is_log_iff n log).0 e)
    go false e = no (λ l. false≢true (sym e ∙ (is_log_iff n log).1 l))

-- ---- rules and bad states that agree on the log

module _ (R : ℕ) (start_met startMet₁ : ℕ → ℕ → Bool) (step_met stepMet₁ : ℕ → ℕ → ℕ → Bool) (bad bad₁ : ℕ → Bool) (log : List ℕ)
    (start : (i : ℕ) → i < R → start_met i (get_or log 0 0) ≡ startMet₁ i (get_or log 0 0))
    (step : (i k : ℕ) → i < R → suc k < length log → step_met i (get_or log k 0) (get_or log (suc k) 0) ≡ stepMet₁ i (get_or log k 0) (get_or log (suc k) 0))
    (same-bad : (k : ℕ) → k < length log → bad (get_or log k 0) ≡ bad₁ (get_or log k 0)) where
  pub blame_same : blame_of R start_met step_met bad log ≡ blame_of R startMet₁ stepMet₁ bad₁ log
  unfolding blame_of blamed_set breach_place is_broken
  blame_same =
      ap₂ (λ (B p : ℕ). record { set = B; breach = cond (ltb p (length log)) (Some p) None })
      (set_of_same R _ _ (λ i h. ap₂ (λ a b. not a || b) (start i h) (any_same (neighbours log) (λ k g. ap not (step i k h ((neighbours_iff log k).0 g))))))
      (position_same bad bad₁ log same-bad)
