-- A list of sets in bytes, as pairs of bytes: the first pair whose set passes a test stands at twice its number. By induction on the list, two bytes
-- at a time.
use Rattle.std.proofs.Common.{ℕ, zero, suc, ◌+◌, ◌*◌, ◌/◌, ◌≡◌, refl, sym, ap, ◌∙◌, Bool, cond, true, false, ltb, Option, Some, None, List, [], ◌∷◌, length, arith}
use Rattle.std.specs.Option.{option_map}
use Rattle.std.specs.Int.{w16, from_le_bytes}
use Rattle.std.specs.List.{position_from, position_or_len}
use Rattle.std.specs.Simd.{first_chunks}
use Rattle.std.proofs.lemmas.Iterator.Adapters.{position_from-zero}
use Rattle.lookup.specs.Search.{first_from, first_in}

-- the set of two bytes
abbrev pub set_of_two : List ℕ → ℕ
set_of_two bytes = from_le_bytes w16 bytes

two_is : (low high : ℕ) → set_of_two (low ∷ high ∷ []) ≡ low + 256 * high
two_is low high = omega arith

module _ (q : ℕ → Bool) where
  -- the test of a pair
  abbrev pub of_pair : List ℕ → Bool
  of_pair bytes = q (set_of_two bytes)

  in_pairs : (n i : ℕ) (list : List ℕ) → n ≡ length list / 2 → first_from q (2 * i) list ≡ option_map (λ k. 2 * k) (position_from of_pair i (first_chunks 2 n list))
  unfolding first_from
  in_pairs zero i [] e = refl
  in_pairs (suc n) i [] e = absurd (omega arith)
  in_pairs zero i (odd ∷ []) e = refl
  in_pairs (suc n) i (odd ∷ []) e = absurd (omega arith)
  in_pairs zero i (low ∷ high ∷ rest) e = absurd (omega arith)
  in_pairs (suc n) i (low ∷ high ∷ rest) e =
      let place : suc (suc (2 * i)) ≡ 2 * (i + 1) = omega arith in
      rw (two_is low high, place, in_pairs n (i + 1) rest (omega arith)) (pushed (q (low + 256 * high)) _)
    where
      pushed : (b : Bool) (o : Option ℕ) → cond b (Some (2 * i)) (option_map (λ k. 2 * k) o) ≡ option_map (λ k. 2 * k) (cond b (Some i) o)
      pushed true o = refl
      pushed false o = refl

  -- as the library's search gives the number of the pair
  abbrev pub pairs : List ℕ → List (List ℕ)
  pairs list = first_chunks 2 (length list / 2) list

  abbrev pub AtPair : List ℕ → Option ℕ → Type 0
  AtPair list r = r ≡ cond (ltb (position_or_len of_pair (pairs list)) (length (pairs list))) (Some (position_or_len of_pair (pairs list))) None

  pub first_pair : (list : List ℕ) (r : Option ℕ) → AtPair list r → option_map (λ k. 2 * k) r ≡ first_in q list
  unfolding first_in
  first_pair list r e = ap (option_map (λ k. 2 * k)) (e ∙ position_from-zero of_pair (pairs list)) ∙ sym (in_pairs (length list / 2) 0 list refl)
