-- What is proved of the order of runs. What is proved of the breadth-first search itself stands in proofs/Laws.
pub mod Sooner
