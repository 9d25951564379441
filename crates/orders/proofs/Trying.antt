-- How rules are tried one by one: once the rest of the order is tried as well, what is found is what the whole order leaves. From the definitions of one
-- core by an order. Assumes nothing.
use Rattle.std.proofs.Common.{ℕ, ◌+◌, ◌≤◌, ◌<◌, ◌≡◌, Bool, List, [], ◌∷◌, Option, Some, None, length, get_or, drop, refl, sym, ap, ◌∙◌, arith, add-one, drop-cons}
use Rattle.std.proofs.Math.Seq.{drop-length}
use Rattle.sets.specs.declared.one_core.OneCore.{OneCore}
use Rattle.sets.specs.Sets.{without}
use Rattle.sets.specs.OneCore.{after_set, after_verdict, after_rule, after_order}

module _ (h : ℕ → Bool) (c : OneCore) (i : ℕ) where
  -- Of a set that was found the rest is judged,
  pub tried_some : {core : ℕ} → c.core ≡ Some core → after_rule h c i ≡ after_set h c (without core i)
  unfolding after_rule
  tried_some e = rw e refl

  -- and where none was nothing is.
  pub tried_none : c.core ≡ None → after_rule h c i ≡ c
  unfolding after_rule
  tried_none e = rw e refl

  -- This is one judgement more, or none.
  counted : (c.judgements ≤ (after_rule h c i).judgements) × ((after_rule h c i).judgements ≤ c.judgements + 1)
  unfolding after_set after_verdict
  counted = go c.core refl
    where
      go : (o : Option ℕ) → c.core ≡ o → (c.judgements ≤ (after_rule h c i).judgements) × ((after_rule h c i).judgements ≤ c.judgements + 1)
      go (Some core) e = let made = ap (λ d. d.judgements) (tried_some e) in (omega arith, omega arith)
      go None e = let made = ap (λ d. d.judgements) (tried_none e) in (omega arith, omega arith)

-- So many rules of the order were tried, by at most as many judgements.
pub record Tried (h : ℕ → Bool) (order : List ℕ) (first : OneCore) (tried : ℕ) (found : OneCore) : Type 0 where
  pub more : first.judgements ≤ found.judgements
  pub few : found.judgements ≤ first.judgements + tried
  pub rest : after_order h found (drop tried order) ≡ after_order h first order

module _ (h : ℕ → Bool) (order : List ℕ) (first : OneCore) (tried : ℕ) {found : OneCore} (t : Tried h order first tried found) where
  -- One rule more.
  pub one_tried : {next : OneCore} → tried < length order → next ≡ after_rule h found (get_or order tried 0) → Tried h order first (tried + 1) next
  unfolding after_order
  one_tried {next} l e = record {
    more = omega (arith, t.more, ap (λ d. d.judgements) e, counted h found (get_or order tried 0));
    few = omega (arith, t.few, ap (λ d. d.judgements) e, counted h found (get_or order tried 0));
    rest =
        ap (λ c. after_order h c (drop (tried + 1) order)) e
        ∙ ap (λ (n : ℕ). after_order h (after_rule h found (get_or order tried 0)) (drop n order)) (add-one tried)
        ∙ sym (ap (after_order h found) (drop-cons order tried 0 l)) ∙ t.rest;
  }

  -- All of them.
  pub all_tried : length order ≡ tried → found ≡ after_order h first order
  unfolding after_order
  all_tried e = ap (after_order h found) (sym (ap (λ (n : ℕ). drop n order) (sym e) ∙ drop-length order)) ∙ t.rest

-- Where nothing was found, no order drops a rule.
pub none_dropped : (h : ℕ → Bool) (order : List ℕ) (c : OneCore) → c.core ≡ None → after_order h c order ≡ c
unfolding after_order
none_dropped h [] c e = refl
none_dropped h (i ∷ order) c e = ap (λ d. after_order h d order) (tried_none h c i e) ∙ none_dropped h order c e
