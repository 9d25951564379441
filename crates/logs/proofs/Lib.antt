-- `Laws` has what is proved of the definitions; `Pairs` what the proof of the blamed set uses.
pub mod Laws
mod Pairs
