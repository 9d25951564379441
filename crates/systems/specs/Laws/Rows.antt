-- A row of the masks has an entry for each state, and each stands in the masks at its place. From the room that masks and tables have. Assumes nothing.
use Rattle.std.specs.Prelude.{ℕ, ◌+◌, ◌*◌, ◌≤◌, ◌<◌, ◌≡◌, Bool, List, eqb, length, get_or, drop}
use Rattle.std.specs.Int.Bits.{bit_and}
use Rattle.std.proofs.Common.{ap, ◌∙◌, arith}
use Rattle.std.proofs.lemmas.List.{length-drop, length-take-le, get_or-take, get_or-drop}
use Rattle.systems.specs.declared.tables.Tables.{Tables}
use Rattle.systems.specs.ByTables.{HasRoom, row_by, step_by}

module _ (masks : List ℕ) (t : Tables) (s : ℕ) where
  pub length_row : HasRoom masks t → s ≤ t.states → length (row_by masks t s) ≡ t.states
  unfolding row_by
  length_row h g = length-take-le t.states (drop (128 * s) masks) (omega (arith, length-drop (128 * s) masks, h.room, h.few))

  -- An entry that is read off a row stands in the masks behind the row's first,
  pub row_at : (u : ℕ) → u < t.states → get_or (row_by masks t s) u 0 ≡ get_or masks (128 * s + u) 0
  unfolding row_by
  row_at u h = get_or-take t.states (drop (128 * s) masks) u 0 h ∙ get_or-drop (128 * s) masks u 0

  -- and its test by a set is whether the pair is a step of the set; in the row behind those of the states, whether the state meets the start parts.
  pub row_meets : {row : List ℕ} → row ≡ row_by masks t s → (set u : ℕ) → u < t.states
      → {met : Bool} → met ≡ eqb (bit_and (get_or row u 0) set) set → met ≡ step_by masks set s u
  unfolding step_by
  row_meets e set u h f = f ∙ ap (λ m. eqb (bit_and m set) set) (ap (λ r. get_or r u 0) e ∙ row_at u h)
