-- The kinds of rules and the lists that the code is given for an accepted text, when enough bytes are lent, are the text's own.
-- From the laws of the answers and their ranges. Assumes nothing.
use Prim.Native.Nat.{ℕ, ◌*◌, ◌^◌, ◌≤◌, ◌<◌}
use mathlib.Core.Path.{◌≡◌, refl, sym, ap, ap₂, ◌∙◌}
use mathlib.Core.List.{List, ◌++◌}
use mathlib.Core.Bool.{false}
use native.Mathlib.Omega.{arith}
use Rattle.std.specs.Prelude.{Option, Some, IsSome, ltb}
use Rattle.std.proofs.Common.{le-ltb}
use Rattle.std.proofs.lemmas.Option.{same_Some}
use Rattle.std.specs.List.{All}
use Rattle.std.proofs.lemmas.List.Elements.{All-from_get_or, All-weaker}
use lib.ListN.{length, get_or, take, drop, length-take}
use lib.Pow.{pow_mono}
use lib.Seq.{take_at}
use Rattle.sets.specs.Lists.{cores_of, cuts_of, bytes_of, overwritten}
use Rattle.sets.specs.Laws.Lists.{length_bytes_of}
use Rattle.sets.specs.Laws.Listed.{at_place, mem_list_of}
use Rattle.models.specs.declared.model.Model.{Model}
use Rattle.models.specs.Written.{described, model_in}
use Rattle.semantics.specs.Meaning.{judge}
use Rattle.lines.specs.Bytes.{bytes}
use Rattle.sorting.specs.declared.which.WhichList.{WhichList}
use Rattle.sorting.specs.declared.which.WhichList.TheVariants.{Cores, Cuts}
use Rattle.sorting.specs.Which.{listed, of_kind}
use Rattle.sorting.specs.declared.kinds.Kind.{Kind}
use Rattle.sorting.specs.declared.kinds.Kind.TheVariants.{Must, May, Irrelevant}
use Rattle.sorting.specs.declared.kinds.Kinds.{Kinds}
use Rattle.sorting.specs.Kinds.{kinds_of}
use Rattle.finding.specs.Lists.{listed_answer, listed_bytes}
use Rattle.calls.specs.Answers.{rules_in, judge_in, list_in, kind_in}
use Rattle.calls.specs.AsRead.{IsRead}
use Rattle.calls.proofs.Laws.Answers.{rules_le, rules_read_lem, read_model_lem}
use Rattle.calls.proofs.Laws.Sizes.{list_le, kind_lt}
use Rattle.sections.specs.Sections.{set_line, kind_lines}
use Rattle.sections.specs.Decoded.{decoded}
use Rattle.sections.specs.Laws.Decoded.{decoded_bytes}

-- ---- the kinds of rules

-- the rules of each kind are the model's own
pub record KindsRead (m : Model) (k : Kinds) : Type 0 where
  pub must : k.must < 2 ^ m.rules
  pub may : k.may < 2 ^ m.rules
  pub irrelevant : k.irrelevant < 2 ^ m.rules

module _ (text : List ℕ) (m : Model) (r : IsRead text m) (k : Kinds) (said : k ≡ kinds_of m.rules (judge (described text m))) where
  gave : k ≡ kinds_of (rules_in text) (judge_in text)
  unfolding judge_in
  gave = said ∙ ap₂ (λ (R : ℕ) D. kinds_of R (judge D)) (rules_read_lem r) (read_model_lem r)

  own : (kind : Kind) {S : ℕ} → S ≡ of_kind kind (rules_in text) (judge_in text) → S < 2 ^ m.rules
  unfolding kind_in
  own kind e = rw (e, rules_read_lem r) (kind_lt kind text)

  must_is : k.must ≡ of_kind Must (rules_in text) (judge_in text)
  unfolding kinds_of of_kind
  must_is = ap (λ x. x.must) gave

  may_is : k.may ≡ of_kind May (rules_in text) (judge_in text)
  unfolding kinds_of of_kind
  may_is = ap (λ x. x.may) gave

  irrelevant_is : k.irrelevant ≡ of_kind Irrelevant (rules_in text) (judge_in text)
  unfolding kinds_of of_kind
  irrelevant_is = ap (λ x. x.irrelevant) gave

  pub kinds_read : KindsRead m k
  kinds_read = record { must = own Must must_is; may = own May may_is; irrelevant = own Irrelevant irrelevant_is }

  pub kinds_are : set_line (model_in text) (bytes "must=") k.must ++ (set_line (model_in text) (bytes "may=") k.may ++ set_line (model_in text) (bytes "irr=") k.irrelevant)
      ≡ kind_lines (model_in text) (judge_in text)
  unfolding kind_lines rules_in
  kinds_are = rw (must_is, may_is, irrelevant_is)

-- ---- the lists

list_below : (which : WhichList) (text : List ℕ) (i : ℕ) → i < length (list_in which text) → get_or (list_in which text) i 0 < 2 ^ rules_in text
unfolding list_in listed cores_of cuts_of
list_below Cores text i l = ((mem_list_of (rules_in text) _ _).0 (at_place (list_in Cores text) i l)).0
list_below Cuts text i l = ((mem_list_of (rules_in text) _ _).0 (at_place (list_in Cuts text) i l)).0

-- The first so many bytes hold the list, and each of its sets is one of the text's rules.
pub record Holding (m : Model) (sets : List ℕ) (end : ℕ) (after : List ℕ) : Type 0 where
  pub fits : end ≤ length after
  pub same : decoded (take end after) ≡ sets
  pub below : All (λ S. S < 2 ^ m.rules) (decoded (take end after))

-- The list of the text's model is found over the front of the lent bytes.
module _ (which : WhichList) (lent : List ℕ) {text : List ℕ} {m : Model} (r : IsRead text m) (room : length lent ≡ 131072) where
  list_is : listed which m.rules (judge (described text m)) ≡ list_in which text
  unfolding list_in rules_in judge_in
  list_is = ap₂ (λ (R : ℕ) D. listed which R (judge D)) (rules_read_lem r) (read_model_lem r)

  enough : ltb (length lent) (2 * length (list_in which text)) ≡ false
  enough = le-ltb (length lent) (2 * length (list_in which text)) (omega (arith, room, list_le which text))

  answered : listed_answer (listed which m.rules (judge (described text m))) lent ≡ Some (length (list_in which text))
  unfolding listed_answer
  answered = rw (list_is, enough)

  written : listed_bytes (listed which m.rules (judge (described text m))) lent ≡ overwritten (bytes_of (list_in which text)) lent
  unfolding listed_bytes
  written = rw (list_is, enough)

  -- so many sets are listed, and this is what the lent bytes hold then
  module _ {after : List ℕ} {o : Option ℕ} (says : o ≡ listed_answer (listed which m.rules (judge (described text m))) lent) (writes : after ≡ listed_bytes (listed which m.rules (judge (described text m))) lent) where
    pub is_listed : IsSome o
    is_listed = rw (says ∙ answered) refl

    module _ {n : ℕ} (unwrapped : o ≡ Some n) where
      count : n ≡ length (list_in which text)
      count = same_Some _ _ (sym unwrapped ∙ says ∙ answered)

      pub count_few : n ≤ 65536
      count_few = omega (arith, count, list_le which text)

      pub list_held : (end : ℕ) → end ≡ 2 * n → Holding m (list_in which text) end after
      unfolding overwritten
      list_held end e =
          record {
            fits = omega (arith, ap length front, length-take end after, length_bytes_of (list_in which text), count);
            same = ap decoded front ∙ same_sets;
            below = rw (front, same_sets) few;
          }
        where
          front : take end after ≡ bytes_of (list_in which text)
          front =
              ap (take end) (writes ∙ written)
              ∙ take_at (bytes_of (list_in which text)) (drop (length (bytes_of (list_in which text))) lent) end
              (omega (arith, length_bytes_of (list_in which text), count))

          few : All (λ S. S < 2 ^ m.rules) (list_in which text)
          few = All-from_get_or (λ S. S < 2 ^ m.rules) _ 0 (λ i l. rw (rules_read_lem r) (list_below which text i l))

          same_sets : decoded (bytes_of (list_in which text)) ≡ list_in which text
          same_sets = decoded_bytes (list_in which text) (All-weaker (λ S. S < 2 ^ m.rules) (λ S. S < 65536) (λ S l. omega (arith, pow_mono (rules_le r))) (list_in which text) few)
