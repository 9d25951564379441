-- A log of states. Read `Log` for what it says of rules and bad states, and `ByTables` for how masks and tables tell these. What is proved of it stands in
-- proofs/Laws, and in `Laws` the run up to the first bad state. Assumes nothing.
pub mod Log
pub mod ByTables
pub mod Laws
