-- The verdicts by the properties before property j are put.
use Rattle.pages.specs.Page.{page_of}
use Rattle.sections.specs.Told.{model_told}
use Rattle.sections.proofs.Verdicts.{Verdicts}
use Rattle.sections.proofs.verdict.verdict_lines.Given as goal

abbrev pub invariant-loop-j : goal.invariant-loop-j
invariant-loop-j l = Verdicts (model_told l.read) (page_of l.initial.page) (page_of l.page) l.j
