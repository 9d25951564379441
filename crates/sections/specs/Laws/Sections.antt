-- A set as the names of its rules, by the places of the rules.
-- From the names of the rules in a set.
use Rattle.std.specs.Prelude.{ℕ, ◌≡◌, map, length}
use Rattle.std.proofs.Common.{ap}
use Rattle.sets.specs.Bit.{has}
use Rattle.sets.specs.Lists.{select}
use Rattle.models.specs.Written.{Described}
use Rattle.models.specs.Laws.Names.{names_at}
use Rattle.sections.specs.Sections.{separated, name_in, set_text}

pub set_text_lem : (M : Described) (S : ℕ) → set_text M S ≡ separated (map (name_in M) (select (has S) (length M.rules)))
unfolding set_text name_in
set_text_lem M S = ap separated (names_at M S)
