-- What is proved of the definitions of this crate.
pub mod Laws
