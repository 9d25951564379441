-- `fill`: what is read at the places of the text are the masks and tables of the model that it tells. From the laws of these places.
use Rattle.std.specs.Prelude.{ℕ, ◌+◌, ◌^◌, ◌≤◌, ◌≡◌, Bool, List, length, take}
use Rattle.std.proofs.Common.{arith, rules, sym, ◌∙◌}
use Rattle.std.proofs.Math.Path.{ap}
use Rattle.models.specs.Written.{described}
use Rattle.models.proofs.Laws.Written.{described_count}
use Rattle.systems.specs.declared.tables.Tables.{Tables}
use Rattle.semantics.specs.declared.model_text.ModelText.{ModelText}
use Rattle.semantics.specs.ByText.{described_by}
use Rattle.semantics.specs.TablesOf.{rows_of, masks_of, marks_of, tables_of}
use Rattle.semantics.specs.Places.{mask_row_by}
use Rattle.semantics.specs.Meaning.{init_met, bad_of}
use Rattle.semantics.proofs.Filling.{marks_told}
use Rattle.semantics.proofs.Laws.Places.{init_described, bad_described, rows_taken}
use Rattle.semantics.proofs.tables.fill.Goals as goal

-- tables with equal fields
made : {rules rules₁ states states₁ : ℕ} {init init₁ bad bad₁ : List Bool} → rules ≡ rules₁ → states ≡ states₁ → init ≡ init₁ → bad ≡ bad₁
    → ◌≡◌ {A = Tables} (record { rules = rules; states = states; init = init; bad = bad }) (record { rules = rules₁; states = states₁; init = init₁; bad = bad₁ })
made p q r s = cc

module _ (m : ModelText) {states : ℕ} (e : states ≡ 2 ^ m.model.vars) where
  tables_are : {init bad : List Bool} → init ≡ marks_of states (init_met (described_by m)) → bad ≡ marks_of states (bad_of (described_by m))
      → ◌≡◌ {A = Tables} (record { rules = m.model.rules; states = states; init = init; bad = bad }) (tables_of (described_by m))
  unfolding tables_of described
  tables_are p q =
      made (sym (described_count m.text.now m.model)) e (p ∙ ap (λ n. marks_of n (init_met (described_by m))) e)
      (q ∙ ap (λ n. marks_of n (bad_of (described_by m))) e)

  masks_are : (before : List ℕ) {masks : List ℕ} → m.model.rules ≤ length m.model.parts
      → masks ≡ rows_of before (states + 1) states (mask_row_by m.text.now (take m.model.rules m.model.parts) states) → masks ≡ masks_of before (described_by m)
  unfolding masks_of described
  masks_are before room p =
      p ∙ ap (λ n. rows_of before (n + 1) n (mask_row_by m.text.now (take m.model.rules m.model.parts) n)) e
      ∙ ap (rows_of before (2 ^ m.model.vars + 1) (2 ^ m.model.vars)) (rows_taken m.text.now m.model room)

pub returns-clause-value : goal.returns-clause-value
returns-clause-value c =
    let m = c.args.m in
    let four : length m.model.props ≡ 4 = search rules in
    let room : m.model.properties ≤ length m.model.props = omega (arith, four, m.few.properties) in
    tables_are m c.state_count-states.ensures
    (marks_told c.marks_where.ensures _ (λ s b t. let e = init_described m.text.now m.model s in search rules))
    (marks_told c.marks_where-2.ensures _ (λ s b t. let e = bad_described m.text.now m.model room s in search rules))

pub returns-clause-masks_after : goal.returns-clause-masks_after
returns-clause-masks_after c =
    let m = c.args.m in
    let sixteen : length m.model.parts ≡ 16 = search rules in
    masks_are m c.state_count-states.ensures c.args.masks.now (omega (arith, sixteen, m.few.rules)) (search rules)
