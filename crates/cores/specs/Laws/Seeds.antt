-- What going over the sets of a monotone judgement finds: what a seed adds is right, and once no set is left every core and every cut has been
-- found. From monotonicity alone.
use Rattle.std.specs.Prelude.{ℕ, ◌+◌, ◌-◌, ◌^◌, ◌≤◌, ◌<◌, ◌≡◌, refl, ◌↔◌, ◌≢◌, ◌⊎◌, Bool, false, not, ◌&&◌, ◌||◌, List, eqb}
use Rattle.std.proofs.Common.{sym, ap, ◌∙◌, inl, inr, ⊎_elim, arith, eqb-true, eq-eqb, ne_eqb}
use Rattle.std.proofs.Math.Bool.{true, true≢false}
use Rattle.std.proofs.lemmas.Bool.{false≢true}
use Rattle.std.proofs.Math.Decide.{ℕ_discrete}
use Rattle.std.proofs.Math.Pow.{pow_pos}
use Rattle.sets.specs.Laws.Choice.{alike}
use Rattle.sets.specs.Bit.{has, full}
use Rattle.sets.specs.Laws.Bit.{has_below, has_rest}
use Rattle.sets.specs.Sets.{◌⊑◌, ProperPart, part, with}
use Rattle.sets.specs.Laws.Sets.{part_iff, part_refl, part_trans, part_le, part_rest, has_with, with_above, with_below, has_without, proper_lt, proper_without}
use Rattle.sets.specs.Cores.{Core, Cut, Monotone, is_core, is_cut}
use Rattle.sets.specs.Laws.Cores.{is_core_iff, is_cut_iff, false_if}
use Rattle.sets.specs.Laws.Neighbours.{holds_above, broken_below}
use Rattle.marks.specs.Marks.{marked, Marks}
use Rattle.marks.specs.Laws.Marks.{Changed, past_stays}
use Rattle.cores.specs.Seeds.{Known, Seed, Growable, Grown, Going, Settled, AllFound}

-- ---- nothing is known at first

pub none_known : (R : ℕ) (h unknown cores cuts : ℕ → Bool) → ((S : ℕ) → S < 2 ^ R → unknown S ≡ true) → ((S : ℕ) → S < 2 ^ R → cores S ≡ false)
    → ((S : ℕ) → S < 2 ^ R → cuts S ≡ false) → Known R h unknown cores cuts
none_known R h unknown cores cuts all no_core no_cut =
    record {
      held_up = λ S T l p c e. absurd (true≢false (sym (all S (omega (arith, part_le p))) ∙ c));
      broken_down = λ S T l p c e. absurd (true≢false (sym (all S l) ∙ c));
      has_core = λ S l c e. absurd (true≢false (sym (all S l) ∙ c));
      lacks_cut = λ S l c e. absurd (true≢false (sym (all S l) ∙ c));
      are_cores = λ S l m. absurd (true≢false (sym m ∙ no_core S l));
      are_cuts = λ S l m. absurd (true≢false (sym m ∙ no_cut S l));
    }

-- ---- growing a broken set

module _ (R : ℕ) (h : ℕ → Bool) (S : ℕ) where
  pub ungrown : h S ≡ false → S < 2 ^ R → Grown R h S 0 S
  ungrown e l = record { broken = e; above = part_refl S; below = l; most = λ j b. absurd (omega arith) }

  module _ (mono : Monotone R h) (i : ℕ) (b : i < R) {T : ℕ} (g : Grown R h S i T) where
    -- rule i is added, and the set stays broken
    pub grown_more : {U : ℕ} → U ≡ with T i → h (with T i) ≡ false → Grown R h S (i + 1) U
    grown_more e broken =
        rw e
        (record {
          broken = broken;
          above = part_trans g.above (with_above T i);
          below = with_below R T i g.below b;
          most = λ j l n.
              mono.more (with T j) (with (with T i) j)
              (with_below R (with T i) j (with_below R T i g.below b) (omega arith))
              (record { every = λ k m. (has_with (with T i) j k).1 (⊎_elim (λ x. inl ((has_with T i k).1 (inl x))) inr ((has_with T j k).0 m)) })
              (g.most j (other j l n) (lacks j n));
        })
      where
        lacks : (j : ℕ) → has (with T i) j ≡ false → has T j ≡ false
        lacks j n = false_if (has T j) (λ m. true≢false (sym ((has_with T i j).1 (inl m)) ∙ n))

        other : (j : ℕ) → j < i + 1 → has (with T i) j ≡ false → j < i
        other j l n =
            let differs : j ≢ i = λ same. true≢false (sym ((has_with T i j).1 (inr same)) ∙ n) in
            omega (arith, differs)

    -- rule i is left out: the set has it, or holds with it
    pub grown_same : (has T i ≡ false → h (with T i) ≡ true) → Grown R h S (i + 1) T
    grown_same e = record { broken = g.broken; above = g.above; below = g.below; most = λ j l. at j l (ℕ_discrete j i) }
      where
        at : (j : ℕ) → j < i + 1 → Dec (j ≡ i) → has T j ≡ false → h (with T j) ≡ true
        at j l (yes same) = rw same e
        at j l (no differs) = g.most j (omega (arith, differs))

-- A broken set to which no rule can be added leaves a cut.
pub grown_cut : (R : ℕ) (h : ℕ → Bool) → Monotone R h → (S T : ℕ) → Grown R h S R T → Cut R h (full R - T)
unfolding Cut
grown_cut R h mono S T g =
    record { itself = rw twice g.broken; no_part = λ U p e. true≢false (sym (above U p) ∙ e) }
  where
    twice : full R - (full R - T) ≡ T
    twice = omega (arith, g.below)

    above : (U : ℕ) → ProperPart U (full R - T) → h (full R - U) ≡ true
    above U p =
        let r = proper_without p in
        let small : U < 2 ^ R = omega (arith, proper_lt p, pow_pos R) in
        let i = r.0 in
        let gone = (has_rest R T i g.below).0 r.1 in
        mono.more (with T i) (full R - U) (omega (arith, pow_pos R))
        (record { every = λ j m. (has_rest R U j small).1 (⊎_elim (inside U p j) (λ same. (rw same gone.0, λ u. ((has_without (full R - T) i j).0 (r.2.every j u)).1 same)) ((has_with T i j).0 m)) })
        (g.most i gone.0 (false_if (has T i) gone.1))
      where
        inside : (U : ℕ) → ProperPart U (full R - T) → (j : ℕ) → has T j ≡ true → (j < R) × (¬ (has U j ≡ true))
        inside U p j m = (has_below R T j g.below m, λ u. ((has_rest R T j g.below).0 (p.within.every j u)).1 m)

-- ---- what a seed adds

-- A set is closed by a test, or was closed before.
closed : (p b : Bool) → ((b && not p) ≡ false) ↔ ((p ≡ true) ⊎ (b ≡ false))
closed true true = (λ _. inl refl, λ _. refl)
closed true false = (λ _. inl refl, λ _. refl)
closed false true = (λ e. absurd (true≢false e), ⊎_elim (λ e. absurd (false≢true e)) (λ e. absurd (true≢false e)))
closed false false = (λ _. inr refl, λ _. refl)

-- A set is the one added, or was there before.
added : (S T : ℕ) (b : Bool) → ((eqb S T || b) ≡ true) ↔ ((S ≡ T) ⊎ (b ≡ true))
added S T b = (λ e. from (eqb S T) refl e, λ e. to e (eqb S T) refl)
  where
    from : (t : Bool) → eqb S T ≡ t → (t || b) ≡ true → (S ≡ T) ⊎ (b ≡ true)
    from true q e = inl (eqb-true S T q)
    from false q e = inr e

    to : (S ≡ T) ⊎ (b ≡ true) → (t : Bool) → eqb S T ≡ t → (t || b) ≡ true
    to e true q = refl
    to (inl e) false q = absurd (false≢true (sym q ∙ eq-eqb S T e))
    to (inr e) false q = e

module _ (R : ℕ) (h : ℕ → Bool) (mono : Monotone R h) (unknown cores cuts : ℕ → Bool) (f : Known R h unknown cores cuts) (S : ℕ) (s : Seed R unknown S) where
  -- A seed that holds is a core: its parts have smaller numbers, and if one of them held the seed would be known to hold.
  pub seed_core : h S ≡ true → Core h S
  unfolding Core
  seed_core e =
      record {
        itself = e;
        no_part = λ T p t. true≢false (sym s.itself ∙ f.held_up T S s.below p.within (s.first T (proper_lt p)) t);
      }

  -- What is known of a set above the seed is that it holds.
  pub known_above : (T : ℕ) → T < 2 ^ R → S ⊑ T → unknown T ≡ false → h T ≡ true
  known_above T l p c = decided (h T) refl
    where
      decided : (b : Bool) → h T ≡ b → b ≡ true
      decided true e = refl
      decided false e = absurd (true≢false (sym s.itself ∙ f.broken_down T S l p c e))

  module _ (unknown' cores' : ℕ → Bool) (o : (T : ℕ) → T < 2 ^ R → unknown' T ≡ (unknown T && not (part S T))) (k : (T : ℕ) → T < 2 ^ R → cores' T ≡ (eqb T S || cores T)) (e : h S ≡ true) where
    pub with_core : Known R h unknown' cores' cuts
    with_core =
        record {
          held_up = λ T U l p c t.
              shut U l
              (⊎_elim (λ q. inl ((part_iff S U).1 (part_trans ((part_iff S T).0 q) p))) (λ q. inr (f.held_up T U l p q t)) (was T (omega (arith, part_le p)) c));
          broken_down = λ T U l p c n. shut U (omega (arith, part_le p)) (inr (f.broken_down T U l p (before T l c n) n));
          has_core = λ T l c t.
              ⊎_elim (λ q. (S, (part_iff S T).0 q, k S s.below ∙ (added S S (cores S)).1 (inl refl)))
              (λ q. let r = f.has_core T l q t in (r.0, r.1, k r.0 (omega (arith, part_le r.1)) ∙ (added r.0 S (cores r.0)).1 (inr r.2)))
              (was T l c);
          lacks_cut = λ T l c n. f.lacks_cut T l (before T l c n) n;
          are_cores = λ T l m. ⊎_elim (λ same. rw same (seed_core e)) (f.are_cores T l) ((added T S (cores T)).0 (sym (k T l) ∙ m));
          are_cuts = f.are_cuts;
        }
      where
        was : (T : ℕ) → T < 2 ^ R → unknown' T ≡ false → (part S T ≡ true) ⊎ (unknown T ≡ false)
        was T l c = (closed (part S T) (unknown T)).0 (sym (o T l) ∙ c)

        shut : (T : ℕ) → T < 2 ^ R → (part S T ≡ true) ⊎ (unknown T ≡ false) → unknown' T ≡ false
        shut T l c = o T l ∙ (closed (part S T) (unknown T)).1 c

        before : (T : ℕ) → T < 2 ^ R → unknown' T ≡ false → h T ≡ false → unknown T ≡ false
        before T l c n = ⊎_elim (λ q. absurd (true≢false (sym (holds_above R h mono S T l q e) ∙ n))) (λ q. q) (was T l c)

  module _ (M : ℕ) (g : Grown R h S R M) (unknown' cuts' : ℕ → Bool) (o : (T : ℕ) → T < 2 ^ R → unknown' T ≡ (unknown T && not (part T M))) (k : (T : ℕ) → T < 2 ^ R → cuts' T ≡ (eqb T (full R - M) || cuts T)) where
    pub with_cut : Known R h unknown' cores cuts'
    with_cut =
        record {
          held_up = λ T U l p c t. shut U l (inr (f.held_up T U l p (before T (omega (arith, part_le p)) c t) t));
          broken_down = λ T U l p c n.
              shut U (omega (arith, part_le p))
              (⊎_elim (λ q. inl ((part_iff U M).1 (part_trans p ((part_iff T M).0 q)))) (λ q. inr (f.broken_down T U l p q n)) (was T l c));
          has_core = λ T l c t. f.has_core T l (before T l c t) t;
          lacks_cut = λ T l c n.
              ⊎_elim (λ q. (M, g.below, (part_iff T M).0 q, k (full R - M) rest ∙ (added (full R - M) (full R - M) (cuts (full R - M))).1 (inl refl)))
              (λ q. let r = f.lacks_cut T l q n in (r.0, r.1, r.2, k (full R - r.0) (omega (arith, pow_pos R)) ∙ (added (full R - r.0) (full R - M) (cuts (full R - r.0))).1 (inr r.3)))
              (was T l c);
          are_cores = f.are_cores;
          are_cuts = λ T l m. ⊎_elim (λ same. rw same (grown_cut R h mono S M g)) (f.are_cuts T l) ((added T (full R - M) (cuts T)).0 (sym (k T l) ∙ m));
        }
      where
        rest : full R - M < 2 ^ R
        rest = omega (arith, pow_pos R)

        was : (T : ℕ) → T < 2 ^ R → unknown' T ≡ false → (part T M ≡ true) ⊎ (unknown T ≡ false)
        was T l c = (closed (part T M) (unknown T)).0 (sym (o T l) ∙ c)

        shut : (T : ℕ) → T < 2 ^ R → (part T M ≡ true) ⊎ (unknown T ≡ false) → unknown' T ≡ false
        shut T l c = o T l ∙ (closed (part T M) (unknown T)).1 c

        before : (T : ℕ) → T < 2 ^ R → unknown' T ≡ false → h T ≡ true → unknown T ≡ false
        before T l c t = ⊎_elim (λ q. absurd (true≢false (sym t ∙ broken_below R h mono M T g.below q g.broken))) (λ q. q) (was T l c)

-- ---- once no set is left

module _ (R : ℕ) (h unknown cores cuts : ℕ → Bool) (f : Known R h unknown cores cuts) (none : (S : ℕ) → S < 2 ^ R → unknown S ≡ false) (S : ℕ) (l : S < 2 ^ R) where
  pub all_cores : cores S ≡ is_core h S
  unfolding Core
  all_cores = alike (cores S) (is_core h S) (λ m. (is_core_iff h S).1 (f.are_cores S l m)) (λ e. found ((is_core_iff h S).0 e))
    where
      found : Core h S → cores S ≡ true
      found c = at (f.has_core S l (none S l) c.itself)
        where
          at : (C : ℕ) × (C ⊑ S) × (cores C ≡ true) → cores S ≡ true
          at r = same (ℕ_discrete r.0 S)
            where
              same : Dec (r.0 ≡ S) → cores S ≡ true
              same (yes e) = rw e at r.2
              same (no n) = absurd (c.no_part r.0 (record { within = r.1; other = n }) (f.are_cores r.0 (omega (arith, part_le r.1)) r.2).itself)

  pub all_cuts : cuts S ≡ is_cut R h S
  unfolding Cut
  all_cuts = alike (cuts S) (is_cut R h S) (λ m. (is_cut_iff R h S).1 (f.are_cuts S l m)) (λ e. found ((is_cut_iff R h S).0 e))
    where
      left : full R - S < 2 ^ R
      left = omega (arith, pow_pos R)

      found : Cut R h S → cuts S ≡ true
      found c = at (f.lacks_cut (full R - S) left (none (full R - S) left) c.itself)
        where
          at : (T : ℕ) × (T < 2 ^ R) × (full R - S ⊑ T) × (cuts (full R - T) ≡ true) → cuts S ≡ true
          at r = same (ℕ_discrete (full R - r.0) S)
            where
              twice : full R - (full R - S) ≡ S
              twice = omega arith

              same : Dec (full R - r.0 ≡ S) → cuts S ≡ true
              same (yes e) = rw e at r.3
              same (no n) =
                  absurd
                  (c.no_part (full R - r.0) (record { within = rw twice at (part_rest R (full R - S) r.0 r.1 r.2); other = n })
                  (f.are_cuts (full R - r.0) (omega (arith, pow_pos R)) r.3).itself)

-- ---- the same of the tables

-- A set of the rules that is added marks no number past them.
one_past : (R T : ℕ) → T < 2 ^ R → (S : ℕ) → 2 ^ R ≤ S → (eqb S T || false) ≡ false
one_past R T b S l = rw (ne_eqb S T (λ same. omega arith))

module _ (R : ℕ) (h : ℕ → Bool) (unknown cores cuts : List ℕ) where
  pub all_unknown : Marks R (λ S. true) unknown → Marks R (λ S. false) cores → Marks R (λ S. false) cuts → Going R h unknown cores cuts
  all_unknown u c k =
      record {
        few = u.few;
        room_unknown = u.room;
        room_cores = c.room;
        room_cuts = k.room;
        past_unknown = u.past;
        past_cores = c.past;
        past_cuts = k.past;
        known = none_known R h (marked unknown) (marked cores) (marked cuts) u.each c.each k.each;
      }

  module _ (g : Going R h unknown cores cuts) where
    pub none_unknown : ((S : ℕ) → S < 2 ^ R → marked unknown S ≡ false) → AllFound R h unknown cores cuts
    none_unknown none = record {
      none_unknown = record { few = g.few; room = g.room_unknown; each = none; past = g.past_unknown };
      all_cores = record { few = g.few; room = g.room_cores; each = all_cores R h (marked unknown) (marked cores) (marked cuts) g.known none; past = g.past_cores };
      all_cuts = record { few = g.few; room = g.room_cuts; each = all_cuts R h (marked unknown) (marked cores) (marked cuts) g.known none; past = g.past_cuts };
    }

    module _ (mono : Monotone R h) (S : ℕ) (s : Seed R (marked unknown) S) where
      pub seed_growable : h S ≡ false → Growable R h unknown S
      seed_growable e =
          record {
            few = g.few;
            room = g.room_unknown;
            broken = e;
            below = s.below;
            known = known_above R h mono (marked unknown) (marked cores) (marked cuts) g.known S s;
          }

      -- the seed holds
      pub settled_core : {unknown' cores' : List ℕ} → h S ≡ true → Changed (λ T b. b && not (part S T)) unknown unknown'
          → Changed (λ T b. eqb T S || b) cores cores' → Settled R h S unknown unknown' cores' cuts
      settled_core {unknown'} {cores'} e u c =
          record {
            going = record {
              few = g.few;
              room_unknown = omega (arith, g.room_unknown, u.size);
              room_cores = omega (arith, g.room_cores, c.size);
              room_cuts = g.room_cuts;
              past_unknown = past_stays u g.past_unknown (λ T l. refl);
              past_cores = past_stays c g.past_cores (one_past R S s.below);
              past_cuts = g.past_cuts;
              known = with_core R h mono (marked unknown) (marked cores) (marked cuts) g.known S s (marked unknown') (marked cores') at
                  (λ T l. c.at T (omega (arith, g.room_cores))) e;
            };
            itself = at S s.below ∙ (closed (part S S) (marked unknown S)).1 (inl ((part_iff S S).1 (part_refl S)));
            stays = λ T l n. at T l ∙ (closed (part S T) (marked unknown T)).1 (inr n);
          }
        where
          at : (T : ℕ) → T < 2 ^ R → marked unknown' T ≡ (marked unknown T && not (part S T))
          at T l = u.at T (omega (arith, g.room_unknown))

      -- the seed is broken, and has grown to M
      pub settled_cut : {M N : ℕ} {unknown' cuts' : List ℕ} → Grown R h S R M → N ≡ full R - M → Changed (λ T b. b && not (part T M)) unknown unknown'
          → Changed (λ T b. eqb T N || b) cuts cuts' → Settled R h S unknown unknown' cores cuts'
      settled_cut {M} {N} {unknown'} {cuts'} m e u k =
          record {
            going = record {
              few = g.few;
              room_unknown = omega (arith, g.room_unknown, u.size);
              room_cores = g.room_cores;
              room_cuts = omega (arith, g.room_cuts, k.size);
              past_unknown = past_stays u g.past_unknown (λ T l. refl);
              past_cores = g.past_cores;
              past_cuts = past_stays k g.past_cuts (one_past R N (omega (arith, e, pow_pos R)));
              known = with_cut R h mono (marked unknown) (marked cores) (marked cuts) g.known S s M m (marked unknown') (marked cuts') at
                  (λ T l. k.at T (omega (arith, g.room_cuts)) ∙ ap (λ (x : ℕ). eqb T x || marked cuts T) e);
            };
            itself = at S s.below ∙ (closed (part S M) (marked unknown S)).1 (inl ((part_iff S M).1 m.above));
            stays = λ T l n. at T l ∙ (closed (part T M) (marked unknown T)).1 (inr n);
          }
        where
          at : (T : ℕ) → T < 2 ^ R → marked unknown' T ≡ (marked unknown T && not (part T M))
          at T l = u.at T (omega (arith, g.room_unknown))
