-- With the names of the rules that are left put as well, the page is as it will be.
use Rattle.pages.specs.Page.{page_of}
use Rattle.sections.specs.Told.{model_told}
use Rattle.sections.specs.Rules.{rules_left}
use Rattle.sections.proofs.Naming.{Naming}
use Rattle.sections.proofs.names.NamedSet.put_names.Given as goal

abbrev pub invariant-loop-rule : goal.invariant-loop-rule
invariant-loop-rule l =
    Naming (model_told l.self.read) l.self.read.m.model.rules (rules_left l.initial.rule-iterator) (page_of l.initial.page) (page_of l.page) (rules_left l.rule-iterator)
