-- The kinds of rules together, by a list of cores and by a judgement.
-- These are definitions.
use Rattle.std.specs.Prelude.{ℕ, ◌-◌, Bool, List}
use Rattle.sets.specs.Bit.{full}
use Rattle.sets.specs.Lists.{common, must_of}
use Rattle.sets.specs.Kinds.{together, may_of, irrelevant_of}
use Rattle.sorting.specs.declared.kinds.Kinds.{Kinds}

-- What the cores have in common, what only some of them have, and what none of them has.
unfoldable pub kinds_by : ℕ → List ℕ → Kinds
unfolding common together
kinds_by R cores = record { must = common cores; may = together cores - common cores; irrelevant = full R - together cores }

-- The kinds of R rules that h judges.
unfoldable pub kinds_of : ℕ → (ℕ → Bool) → Kinds
unfolding must_of may_of irrelevant_of
kinds_of R h = record { must = must_of R h; may = may_of R h; irrelevant = irrelevant_of R h }
