-- What the proofs of several functions use.
mod Clearing
mod Words
