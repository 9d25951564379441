-- What the reading is worth: a text is accepted exactly when it is the written form of a legal model, and the model that an accepted text tells
-- is that one. Also how long a legal model is. From the laws of the reading.
use Rattle.std.specs.Prelude.{ℕ, ◌≤◌, ◌≡◌, ◌↔◌, length}
use Rattle.std.proofs.Common.{sym, ap, ◌∙◌, subst, arith}
use mathlib.Core.List.{List, flat_map}
use Rattle.exprs.specs.Expr.{written, size}
use Rattle.lines.specs.Decimal.{decimal}
use Rattle.lines.specs.Lines.{vars_key, rules_key, init_key}
use Rattle.lines.specs.Written.{line, written_rule}
use Rattle.lines.specs.Laws.Decimal.{decimal_one}
use Rattle.lines.proofs.Laws.Lines.{length_line}
use Rattle.refusals.specs.Answers.{Accepted, outcome_of}
use Rattle.models.specs.Reading.{read_model}
use Rattle.models.specs.Written.{Described, Legal, written_property, written_model, model_in}
use Rattle.models.proofs.Laws.Written.{found_is_described, written_is_found, accepted_is_written, accepted_is_found, written_lines, length_five, rules_length, properties_length, decimal_length}

-- a text is accepted exactly when it is the written form of a legal model
pub accepts_what_is_written : (text : List ℕ) → (outcome_of (read_model text) ≡ Accepted) ↔ ((M : Described) × Legal M × (text ≡ written_model M))
accepts_what_is_written text = (accepted_is_written text, λ m. ap (λ t. outcome_of (read_model t)) m.2 ∙ (written_is_found m.0 m.1).accepted)

-- The text is the written form of the model that it tells, which is legal.
pub record Told (text : List ℕ) : Type 0 where
  pub legal : Legal (model_in text)
  pub written : text ≡ written_model (model_in text)

-- an accepted text tells its model
pub told : (text : List ℕ) → outcome_of (read_model text) ≡ Accepted → Told text
unfolding model_in
told text q =
    let w = accepted_is_found text q in
    let is : w.0 ≡ model_in text = found_is_described text w.0 (read_model text) w.3 in
    record { legal = subst Legal is w.1; written = w.2 ∙ ap written_model is }

-- the written form of a legal model tells that model
pub told_back : (M : Described) → Legal M → model_in (written_model M) ≡ M
unfolding model_in
told_back M l = sym (found_is_described (written_model M) M (read_model (written_model M)) (written_is_found M l))

-- a text is the written form of at most one legal model
pub one_model : (M N : Described) → Legal M → Legal N → written_model M ≡ written_model N → M ≡ N
one_model M N l k q = sym (told_back M l) ∙ ap model_in q ∙ told_back N k

-- "A legal model now has at most 2,670 bytes."
pub legal_length : (M : Described) → Legal M → length (written_model M) ≤ 2670
unfolding size
legal_length M l =
    let l₁ : List ℕ = line vars_key (decimal M.vars) in
    let l₂ : List ℕ = line rules_key (decimal (length M.rules)) in
    let l₃ : List ℕ = line init_key (written M.init) in
    let l₄ : List ℕ = flat_map written_property M.props in
    let last : List ℕ = flat_map written_rule M.rules in
    let digit : length (decimal M.vars) ≡ 1 = ap length (decimal_one M.vars (omega (arith, l.vars.at_most))) in
    omega (arith, l.count.at_most, l.init.bytes, l.properties.at_most, properties_length M.vars M.props l.props, decimal_length (length M.rules) (omega (arith, l.count.at_most)), rules_length M.vars M.rules l.rules, ap length (written_lines M), length_five l₁ l₂ l₃ l₄ last, length_line vars_key (decimal M.vars), length_line rules_key (decimal (length M.rules)), length_line init_key (written M.init))
