-- What a model and a rule set mean. Read `Meaning` for the transition system of a model and a rule set, and `TablesOf` for its masks and tables as
-- code holds them; `ByText` names the model that a text describes, and `Few` how large it may be; `Places` says what code reads at single places of the
-- text, and `Lent` what a closure is lent. What is proved of these stands in proofs/Laws: its `Filled` is what other crates use, that the tables filled from a text give each rule set the system that it means. Assumes nothing.
pub mod Meaning
pub mod Few
pub mod ByText
pub mod TablesOf
pub mod Places
pub mod Lent
