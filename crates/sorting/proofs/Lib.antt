-- What the proofs of several functions use.
mod Folded
mod Putting
mod Written
