-- The laws of this crate: what is proved of the definitions that stand one folder above.
pub mod Written
pub mod Host
pub mod Demand1
pub mod Demand2
pub mod Demand3
pub mod Relied
pub mod Suffices
pub mod Telling
pub mod Properties
pub mod Reached
pub mod OneCore
pub mod Blame
pub mod PowerUp
pub mod Examples
