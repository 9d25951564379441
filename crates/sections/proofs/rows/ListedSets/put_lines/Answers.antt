-- A turn puts the line of the set that two bytes hold; behind the last turn nothing is left to put.
use Rattle.std.proofs.Common.{ℕ, ◌/◌, ◌≡◌, refl, ◌<◌, ◌∙◌, List, [], length, get_or, ap, arith}
use Rattle.std.proofs.lemmas.List.Elements.{All-get_or}
use Rattle.std.specs.List.{All}
use Rattle.std.specs.Int.{w16, from_le_bytes}
use Rattle.std.specs.Simd.{first_chunks}
use Rattle.pages.specs.Laws.Putting.{next, ended, put_as}
use Rattle.sections.specs.Told.{model_told}
use Rattle.sections.specs.Sections.{set_line}
use Rattle.sections.specs.Decoded.{decoded}
use Rattle.sections.specs.Laws.Decoded.{decoded_length, chunk_at}
use Rattle.sections.proofs.rows.ListedSets.put_lines.Goals as goal

-- the chunks of the bytes, of which S is the set in chunk i
module _ (sets : List ℕ) (pairs : List (List ℕ)) (chunks : pairs ≡ first_chunks 2 (length sets / 2) sets) (count : length pairs ≡ length sets / 2) where
  as_many : length pairs ≡ length (decoded sets)
  as_many = omega (arith, count, decoded_length sets)

  is_decoded : (i S : ℕ) → i < length pairs → S ≡ from_le_bytes w16 (get_or pairs i []) → S ≡ get_or (decoded sets) i 0
  is_decoded i S h e = e ∙ ap (λ l. from_le_bytes w16 (get_or l i [])) chunks ∙ chunk_at (length sets / 2) sets refl i (omega arith)

  below : (i S : ℕ) → i < length pairs → S ≡ from_le_bytes w16 (get_or pairs i []) → (bound : ℕ) → All (λ T. T < bound) (decoded sets) → S < bound
  below i S h e bound all = rw (is_decoded i S h e) (All-get_or (λ T. T < bound) (decoded sets) i 0 (omega (arith, as_many)) all)

pub invariant_of-put_line : goal.invariant_of-put_line
invariant_of-put_line c =
    let k = c.as_chunks.ensures in
    record { few = below _ _ k.front k.front_len _ _ c.loop-pair-test.true c.from_le_bytes.ensures _ c.args.self.few }

pub loop-pair-preserved : goal.loop-pair-preserved
loop-pair-preserved c =
    let k = c.as_chunks.ensures in
    next _ _ _ _ _ c.loop-pair.invariant (omega (arith, as_many _ _ k.front k.front_len)) _
    (put_as _ _ _ _ c.put_line.ensures
    (ap (set_line (model_told c.args.self.read) c.args.key.now) (is_decoded _ _ k.front k.front_len _ _ c.loop-pair-test.true c.from_le_bytes.ensures)))

pub returns : goal.returns
returns c = ended _ _ _ _ _ c.loop-pair.invariant (omega (arith, as_many _ _ c.as_chunks.ensures.front c.as_chunks.ensures.front_len))
