-- A rule line of a model text: what reading it gives. What is proved of this stands in proofs/Laws.
pub mod RuleLines
