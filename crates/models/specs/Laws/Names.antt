-- The names of the rules in a set, by the places of the rules.
-- From what a set keeps of a list.
use Rattle.std.specs.Prelude.{ℕ, ◌≡◌, map, length}
use Rattle.std.proofs.Common.{ap, ◌∙◌}
use Rattle.std.proofs.lemmas.Simd.{map-map}
use Rattle.sets.specs.Bit.{has}
use Rattle.sets.specs.Lists.{select}
use Rattle.sets.specs.Laws.Kept.{map_kept, kept_select}
use Rattle.models.specs.Written.{Described, rule_at, names_of}

pub names_at : (M : Described) (S : ℕ) → names_of M S ≡ map (λ i. (rule_at M.rules i).name) (select (has S) (length M.rules))
unfolding names_of
names_at M S =
    map_kept (λ r. r.name) S M.rules ∙ ap (map (λ r. r.name)) (kept_select _ S M.rules)
    ∙ map-map (λ r. r.name) (λ i. rule_at M.rules i) (select (has S) (length M.rules))
