-- The list that is meant: that of the cores, or that of the cuts; and the kind of rules that is meant.
-- These are definitions.
use Rattle.std.specs.Prelude.{ℕ, Bool, List}
use Rattle.sets.specs.Lists.{cores_of, cuts_of, must_of}
use Rattle.sets.specs.Kinds.{may_of, irrelevant_of}
use Rattle.sorting.specs.declared.kinds.Kind.{Kind}
use Rattle.sorting.specs.declared.kinds.Kind.TheVariants.{Must, May, Irrelevant}
use Rattle.sorting.specs.declared.which.WhichList.{WhichList}
use Rattle.sorting.specs.declared.which.WhichList.TheVariants.{Cores, Cuts}

-- The list of the sets of R rules that h judges.
unfoldable pub listed : WhichList → ℕ → (ℕ → Bool) → List ℕ
unfolding cores_of cuts_of
listed Cores R h = cores_of R h
listed Cuts R h = cuts_of R h

-- The rules of one kind, of R rules that h judges.
unfoldable pub of_kind : Kind → ℕ → (ℕ → Bool) → ℕ
unfolding must_of may_of irrelevant_of
of_kind Must R h = must_of R h
of_kind May R h = may_of R h
of_kind Irrelevant R h = irrelevant_of R h
