-- What blame from a log answers. What is proved of it stands in proofs/Laws.
pub mod Answer
