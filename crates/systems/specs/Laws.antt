-- What is proved of the definitions. `Compare` has Lemma 1 of source document 000 and sameness. The others have the laws that these and the proofs of
-- code rest on. The theorem of several properties is in proofs/Properties.
pub mod Least
pub mod Count
pub mod Walks
pub mod Breaks
pub mod Depth
pub mod Holds
pub mod Compare
pub mod HoldsTo
pub mod Rows
