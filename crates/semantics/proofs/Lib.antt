-- `Laws` has what is proved of the definitions, the others what the proofs of several functions use.
pub mod Laws
mod Filling
mod Fours
