-- With the lines of the sets from here on put as well, the page is as it will be.
use Rattle.pages.specs.Page.{page_of}
use Rattle.pages.specs.Laws.Putting.{Putting}
use Rattle.sections.specs.Told.{model_told}
use Rattle.sections.specs.Sections.{set_line}
use Rattle.sections.specs.Decoded.{decoded}
use Rattle.sections.proofs.rows.ListedSets.put_lines.Given as goal

abbrev pub invariant-loop-pair : goal.invariant-loop-pair
invariant-loop-pair l =
    Putting (set_line (model_told l.self.read) l.key) (decoded l.self.bytes.now) (page_of l.initial.page) (page_of l.page) l.pair-index
