-- The laws of this crate: what is proved of the definitions that stand one folder above. What rests on the meaning of
-- MUST or of one core stands in proofs/Laws.
pub mod Bit
pub mod Sets
pub mod Cores
pub mod Lists
pub mod Gathered
pub mod Next
pub mod Tabulated
pub mod Choice
pub mod First
pub mod Listed
pub mod Edges
pub mod Neighbours
pub mod Growth
pub mod Steps
pub mod Orders
pub mod Kept
pub mod OneList
