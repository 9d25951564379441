-- The laws of this crate's definitions.
pub mod Marks
