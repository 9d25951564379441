-- The breadth-first search: `Search` says which runs are found in which order and how many pairs of states are tried, `Collecting` what is to hold of
-- that, `Stored` how a mark for each state, a list of runs and a count hold it. What is proved of it stands in proofs/Laws. Assumes nothing.
pub mod Search
pub mod Collecting
pub mod Stored
pub mod Laws
