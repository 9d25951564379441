-- A model that is changed in its rules or properties stays legal, and which rules and properties it then has.
-- From the laws of lists, and of what a set keeps of a list.
use Prim.Native.Nat.{ℕ, zero, suc, ◌^◌, ◌<◌}
use Rattle.std.specs.Prelude.{◌≡◌, ◌≢◌, true, List, [], ◌∷◌}
use Rattle.std.proofs.Common.{sym, ◌∙◌}
use Rattle.std.proofs.Math.Path.{ap}
use Rattle.std.proofs.Math.Bool.{false}
use Rattle.std.proofs.Math.Option.{Option, none, some}
use native.Mathlib.Omega.{arith}
use Rattle.std.proofs.Math.Decide.{ℕ_discrete}
use Rattle.std.specs.Int.Count.{ones, ones-le}
use Rattle.std.proofs.Math.ListN.{length, length-set}
use Rattle.std.proofs.Math.Seq.{get_or-set_same, get_or-set_other}
use Rattle.sets.specs.Tabulated.{tabulate}
use Rattle.sets.specs.Renumbered.{old_place}
use Rattle.sets.specs.Laws.Tabulated.{length_tabulate, get_d_tabulate}
use Rattle.sets.specs.Laws.Kept.{length_kept, kept_at, old_up, old_below}
use Rattle.exprs.specs.Expr.{Expr, size}
use Rattle.lines.specs.Written.{Rule, LegalExpr, LegalStart, LegalRule}
use Rattle.models.specs.declared.model.Model.{Model}
use Rattle.models.specs.Written.{Described, Legal, property_at, rule_at, expr_at, property_in, rule_in, described}
use Rattle.models.specs.Changed.{keeping, replacing, or_one, start_written_out, starts_written_out, by_property}
use Rattle.models.specs.Places.{places_by_property}
use Rattle.models.proofs.Laws.Written.{described_property}

-- ---- some rules are left out

module _ (U : ℕ) (M : Described) (h : U < 2 ^ length M.rules) where
  -- There are as many rules as the set has.
  pub length_keeping : length (keeping U M).rules ≡ ones U
  unfolding keeping
  length_keeping = length_kept U M.rules h

  old_rule : (i : ℕ) → rule_at (keeping U M).rules i ≡ rule_at M.rules (old_place (length M.rules) U i)
  unfolding keeping
  old_rule i = kept_at U M.rules i _

  old_place_lem : (i : ℕ) → i < length (keeping U M).rules → old_place (length M.rules) U i < length M.rules
  old_place_lem i k = old_below (length M.rules) U i h (omega (arith, length_keeping))

  -- With at least one rule the model is legal.
  pub keeping_legal : Legal M → 0 < ones U → Legal (keeping U M)
  unfolding keeping
  keeping_legal l left = record {
    vars = l.vars;
    count = record { at_least = omega (arith, length_keeping); at_most = omega (arith, length_keeping, ones-le (length M.rules) U h, l.count.at_most) };
    init = l.init;
    properties = l.properties;
    props = l.props;
    rules = λ i k. rw (old_rule i) (l.rules (old_place (length M.rules) U i) (old_place_lem i k));
    names = λ i j k m. rw (old_rule i, old_rule j) (l.names _ _ (old_up (length M.rules) U i j k) (old_place_lem j m));
  }

-- ---- the parts of one rule are replaced

module _ (i : ℕ) (step : Expr) (start : Option Expr) (M : Described) where
  -- There are as many rules as before.
  pub length_replacing : length (replacing i step start M).rules ≡ length M.rules
  unfolding replacing
  length_replacing = length-set M.rules i _

  -- Every other rule is the one that it was.
  pub other_rule : (j : ℕ) → j ≢ i → rule_at (replacing i step start M).rules j ≡ rule_at M.rules j
  unfolding replacing
  other_rule j n = get_or-set_other M.rules i j _ _ n

  module _ (h : i < length M.rules) where
    replaced : rule_at (replacing i step start M).rules i ≡ record { name = (rule_at M.rules i).name; step = step; start = start }
    unfolding replacing
    replaced = get_or-set_same M.rules i _ _ h

    same_name : (j : ℕ) → (rule_at (replacing i step start M).rules j).name ≡ (rule_at M.rules j).name
    same_name j = go (ℕ_discrete j i)
      where
        go : Dec (j ≡ i) → (rule_at (replacing i step start M).rules j).name ≡ (rule_at M.rules j).name
        go (yes q) = rw q (ap (λ r. r.name) replaced)
        go (no n) = ap (λ r. r.name) (other_rule j n)

    -- With legal parts in their place the model is legal.
    pub replacing_legal : Legal M → LegalExpr M.vars true step → LegalStart M.vars start → Legal (replacing i step start M)
    unfolding replacing
    replacing_legal l le ls = record {
      vars = l.vars;
      count = rw length_replacing l.count;
      init = l.init;
      properties = l.properties;
      props = l.props;
      rules = λ j k. rule j (rw length_replacing at k) (ℕ_discrete j i);
      names = λ j k m n q. l.names j k m (rw length_replacing at n) (sym (same_name j) ∙ q ∙ same_name k);
    }
      where
        rule : (j : ℕ) → j < length M.rules → Dec (j ≡ i) → LegalRule M.vars (rule_at (replacing i step start M).rules j)
        rule j k (yes q) =
            let old = l.rules i h in
            rw (q, replaced) (record { name_length = old.name_length; name_bytes = old.name_bytes; step = le; start = ls })
        rule j k (no n) = rw (other_rule j n) (l.rules j k)

-- ---- each missing start part is written out

module _ (M : Described) where
  -- There are as many rules as before.
  pub length_written_out : length (starts_written_out M).rules ≡ length M.rules
  unfolding starts_written_out
  length_written_out = length_tabulate (length M.rules) _

  pub rule_written_out : (i : ℕ) → i < length M.rules → rule_at (starts_written_out M).rules i ≡ start_written_out (rule_at M.rules i)
  unfolding starts_written_out
  rule_written_out i h = get_d_tabulate (length M.rules) (λ i. start_written_out (rule_at M.rules i)) _ i h

  -- The model is legal.
  pub written_out_legal : Legal M → Legal (starts_written_out M)
  unfolding starts_written_out start_written_out or_one size
  written_out_legal l = record {
    vars = l.vars;
    count = rw length_written_out l.count;
    init = l.init;
    properties = l.properties;
    props = l.props;
    rules = λ i k. let h : i < length M.rules = rw length_written_out at k in rw (rule_written_out i h) (legal (l.rules i h));
    names = λ i j k m.
        let h : j < length M.rules = rw length_written_out at m in
        rw (rule_written_out i (omega arith), rule_written_out j h) (l.names i j k h);
  }
    where
      start : (o : Option Expr) → LegalStart M.vars o → LegalExpr M.vars false (or_one o)
      start none k = record { bytes = omega arith; letters = tt; small = λ _. tt }
      start (some e) k = k

      legal : {r : Rule} → LegalRule M.vars r → LegalRule M.vars (start_written_out r)
      legal {r} k = record { name_length = k.name_length; name_bytes = k.name_bytes; step = k.step; start = start r.start k.start }

-- ---- one property alone

module _ (j : ℕ) where
  -- The model with one property alone is legal.
  pub by_property_legal : (M : Described) → j < length M.props → Legal M → Legal (by_property j M)
  unfolding by_property
  by_property_legal M h l = record {
    vars = l.vars;
    properties = record { at_least = omega arith; at_most = omega arith };
    count = l.count;
    init = l.init;
    props = λ i k. first i k (l.props j h);
    rules = l.rules;
    names = l.names;
  }
    where
      first : (i : ℕ) → i < 1 → LegalExpr M.vars false (property_at M.props j) → LegalExpr M.vars false (property_at (property_at M.props j ∷ []) i)
      first zero k e = e
      first (suc i) k e = absurd (omega arith)

  -- Its parts stand where they are said to.
  pub described_by_property : (text : List ℕ) (m : Model) → j < m.properties → described text (places_by_property j m) ≡ by_property j (described text m)
  unfolding described places_by_property by_property property_in rule_in
  described_by_property text m h =
      ap (λ e. record { vars = m.vars; init = expr_at text m.init; props = e ∷ []; rules = tabulate m.rules (rule_in text m) }) (sym (described_property text m j h))
