-- What is proved of the breadth-first search: `Search` proves that it finds the reached states and the trace, `Collecting` how many pairs it tries. The
-- others have the laws that these and the proofs of code rest on. They stand apart from specs/, so that an edit of the definition is refused here.
pub mod SearchSteps
pub mod Search
pub mod Stored
pub mod Collecting
