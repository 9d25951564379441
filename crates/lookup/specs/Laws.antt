-- What is proved of the definitions of this crate.
pub mod Search
pub mod Suffices
pub mod Lists
