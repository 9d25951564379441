-- `Laws` has what is proved of the definitions; the others have what the proofs of several functions use.
pub mod Laws
mod AskedFacts
mod JudgeFacts
mod ListFacts
mod ReachedFacts
