-- Transition systems. Read `System` for the meanings, `Verdict` for the functions that compute, `Judged` for the theorem that joins them,
-- `Properties` for several properties together; `ByTables` is the system that the tables of code give a rule set, and `BySystems` the same by the one
-- value that code holds. These files hold what has to be believed; what is proved of it stands in `Laws`. Assumes nothing.
pub mod Least
pub mod Count
pub mod System
pub mod Verdict
pub mod Judged
pub mod Properties
pub mod ByTables
pub mod BySystems
pub mod Laws
