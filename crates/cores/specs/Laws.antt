-- The laws of this crate's definitions.
pub mod Seeds
pub mod Judged
