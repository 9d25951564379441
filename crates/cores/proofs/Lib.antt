-- What the proofs of functions use.
mod Needed
mod Finding
