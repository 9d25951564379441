-- What the proofs of several functions use.
mod Trying
mod Seen
