-- What is proved of the definitions of this crate.
pub mod Answered
pub mod Lines
pub mod Ranges
