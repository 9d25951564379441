-- `Laws` has what is proved of the definitions; the others have what the proofs of several functions use.
pub mod Laws
mod Passing
