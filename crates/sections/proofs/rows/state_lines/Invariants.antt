-- With the lines from here on put as well, the page is as it will be.
use Rattle.lines.specs.Bytes.{bytes}
use Rattle.pages.specs.Page.{page_of}
use Rattle.pages.specs.Numbers.{number_line}
use Rattle.pages.specs.Laws.Putting.{Putting}
use Rattle.sections.proofs.rows.state_lines.Given as goal

abbrev pub invariant-loop-state : goal.invariant-loop-state
invariant-loop-state l = Putting (number_line (bytes "state=")) l.states (page_of l.initial.page) (page_of l.page) l.state-index
