-- `Laws` has what is proved of reading a line, `Counting` and `Keys` what the proofs of functions use.
pub mod Laws
mod Counting
mod Keys
