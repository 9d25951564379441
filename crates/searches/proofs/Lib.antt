-- `Laws` has what is proved of the definitions, `Stored` what the proofs of several functions use.
pub mod Laws
mod Stored
