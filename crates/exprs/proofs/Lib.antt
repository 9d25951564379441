-- What the proofs of several functions use.
pub mod Operands
pub mod Letters
