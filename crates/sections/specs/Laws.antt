-- The laws of this crate: what is proved of the definitions that stand one folder above.
pub mod Decoded
pub mod Rules
pub mod Sections
