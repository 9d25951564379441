-- `found_in`: the tables that are lent to the closure are those that were found. From the length of a table.
use Rattle.std.specs.Prelude.{ℕ, ◌≡◌, ◌+◌, ◌/◌, ◌^◌, Bool, List, ◌++◌, length, take}
use Rattle.std.proofs.Common.{refl, sym, ◌∙◌}
use Rattle.std.proofs.Math.Path.{ap}
use denote.Ref.{MutBor}
use Rattle.std.proofs.lemmas.List.{take_at}
use Rattle.sets.specs.Cores.{is_core, is_cut}
use Rattle.marks.specs.Marks.{table_by}
use Rattle.marks.specs.Laws.Marks.{length_table_by}
use Rattle.marks.specs.declared.table.MarkedSets.{MarkedSets}
use Rattle.finding.specs.Finding.{Found, AnswersByFound}
use Rattle.finding.proofs.find.found_in.Goals as goal

-- so many words of an array are the table that was stored at its front
front_is : (R : ℕ) (p : ℕ → Bool) {words : ℕ} {table : List ℕ} (rest : List ℕ) → words ≡ (2 ^ R + 63) / 64 → table ≡ table_by R p → take words (table ++ rest) ≡ table_by R p
front_is R p {words} {table} rest e is = take_at table rest words (ap length is ∙ length_table_by R p ∙ sym e) ∙ is

-- so such parts are the tables that were found
its_found : {R : ℕ} {h : ℕ → Bool} {words : ℕ} {cores cuts : List ℕ} (behind behind' : List ℕ) → words ≡ (2 ^ R + 63) / 64 → cores ≡ table_by R (is_core h)
    → cuts ≡ table_by R (is_cut R h) → (x y : MarkedSets) → x.rules ≡ R → x.table.now ≡ take words (cores ++ behind) → y.rules ≡ R
    → y.table.now ≡ take words (cuts ++ behind') → Found R h x y
its_found {R} {h} behind behind' e a b x y p q r s = record {
  cores_rules = p;
  cores_are = q ∙ front_is R (is_core h) behind e a;
  cuts_rules = r;
  cuts_are = s ∙ front_is R (is_cut R h) behind' e b;
}

-- what a closure answers by tables that were found
told : {A : Type 0} {post : MarkedSets → MarkedSets → MutBor (List ℕ) → A → MutBor (List ℕ) → Type 0} {R : ℕ} {h : ℕ → Bool} {lent lent' : List ℕ} {r : A}
    (cores cuts : MarkedSets) (shown left : MutBor (List ℕ)) → post cores cuts shown r left → Found R h cores cuts → shown.now ≡ lent → left.now ≡ lent'
    → AnswersByFound post R h lent r lent'
told cores cuts shown left a f e g = record { cores = cores; cuts = cuts; found = f; shown = shown; shows = e; left = left; answered = a; leaves = g }

pub run-requires : goal.run-requires
run-requires g c =
    c.requires.callable.at _ _ _ (its_found _ _ c.word_count-words.ensures c.find.ensures.cores_after c.find.ensures.cuts_after _ _ refl refl refl refl) refl

pub returns : goal.returns
returns g c =
    told _ _ _ _ c.run.ensures (its_found _ _ c.word_count-words.ensures c.find.ensures.cores_after c.find.ensures.cuts_after _ _ refl refl refl refl) refl refl
