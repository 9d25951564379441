-- A core of a monotone judgement is told by the sets with one rule less; and what one verdict says of other sets.
-- From monotonicity: a proper part lacks a rule, so it is a part of the set without that rule.
use Rattle.std.specs.Prelude.{ℕ, ◌^◌, ◌<◌, ◌≡◌, ◌↔◌, Bool, true, false}
use Rattle.std.proofs.Common.{sym, ◌∙◌, arith}
use Rattle.std.proofs.Math.Bool.{true≢false}
use Rattle.sets.specs.Bit.{has}
use Rattle.sets.specs.Laws.Bit.{has_below}
use Rattle.sets.specs.Sets.{part, without}
use Rattle.sets.specs.Laws.Sets.{part_iff, without_le, without_proper, proper_without}
use Rattle.sets.specs.Cores.{Core, Monotone}
use Rattle.sets.specs.Laws.Cores.{false_if}

module _ (R : ℕ) (h : ℕ → Bool) (mono : Monotone R h) where
  -- The sets above one that holds hold, and the sets below one that is broken are broken.
  pub holds_above : (S T : ℕ) → T < 2 ^ R → part S T ≡ true → h S ≡ true → h T ≡ true
  holds_above S T l p = mono.more S T l ((part_iff S T).0 p)

  pub broken_below : (S T : ℕ) → S < 2 ^ R → part T S ≡ true → h S ≡ false → h T ≡ false
  broken_below S T l p e = false_if (h T) (λ t. true≢false (sym (holds_above T S l p t) ∙ e))

  -- A core: it holds, and without any one of its rules it is broken.
  pub core_neighbours : (S : ℕ) → S < 2 ^ R
      → Core h S ↔ ((h S ≡ true) × ((i : ℕ) → i < R → has S i ≡ true → h (without S i) ≡ false))
  unfolding Core
  core_neighbours S l = (
    λ c. (c.itself, λ i _ e. false_if (h (without S i)) (c.no_part (without S i) (without_proper S i e))),
    λ p. record {
      itself = p.0;
      no_part = λ T q t.
          let r = proper_without q in
          true≢false
          (sym (mono.more T (without S r.0) (omega (arith, without_le S r.0)) r.2 t)
          ∙ p.1 r.0 (has_below R S r.0 l r.1) r.1);
    },
  )
