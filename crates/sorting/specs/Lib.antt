-- The root of this crate's definitions: the kinds of rules together, which list and which kind is meant, and how a list of sets is written.
pub mod Kinds
pub mod Which
pub mod Written
