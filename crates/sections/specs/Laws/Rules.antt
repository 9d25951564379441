-- What an iterator over a set has left: its first rule, and then the rules of the set without it. From the laws of the first rule of a set.
use Rattle.std.specs.Prelude.{ℕ, ◌≡◌, Some, None, [], ◌∷◌}
use Rattle.sets.specs.Bit.{has}
use Rattle.sets.specs.Sets.{without}
use Rattle.sets.specs.Next.{next_if_any}
use Rattle.sets.specs.Laws.First.{told_none, select_told}
use Rattle.sections.specs.declared.rules.Rules.{Rules}
use Rattle.sections.specs.Rules.{rules_left}

pub none_left : (s : Rules) → None ≡ next_if_any (has s.0.0) 0 16 → rules_left s ≡ []
unfolding rules_left
none_left s told = told_none s.0.0 told

pub first_left : (s t : Rules) (first : ℕ) → Some first ≡ next_if_any (has s.0.0) 0 16 → t.0.0 ≡ without s.0.0 first → rules_left s ≡ first ∷ rules_left t
unfolding rules_left
first_left s t first told less = rw less (select_told s.0.0 first told)
