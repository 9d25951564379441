-- What finding one core by an order of the rules answers. What is proved of it stands in proofs/Laws.
pub mod Answer
