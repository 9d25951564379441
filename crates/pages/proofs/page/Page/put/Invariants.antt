-- With the bytes from here on put as well, the page is as it will be.
use Rattle.std.proofs.Common.{[], ◌∷◌}
use Rattle.pages.specs.Page.{page_of}
use Rattle.pages.specs.Laws.Putting.{Putting}
use Rattle.pages.proofs.page.Page.put.Given as goal

abbrev pub invariant-loop-b : goal.invariant-loop-b
invariant-loop-b l = Putting (λ b. b ∷ []) l.src (page_of l.initial.self) (page_of l.self) l.b-index
