-- What the proofs of several functions use.
mod Naming
mod Called
mod Verdicts
