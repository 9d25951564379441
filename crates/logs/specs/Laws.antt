-- What is proved of a log's states as a run. What is proved of the definitions of `Log` stands in proofs/Laws.
pub mod Run
