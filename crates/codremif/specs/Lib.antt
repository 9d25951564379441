-- The demands as theorems (`Demands`, which says in which order to read), and the starred examples. What is proved of the definitions stands in `Laws`.
pub mod Demand1
pub mod Demand2
pub mod Demand3
pub mod Examples
pub mod Relied
pub mod Suffices
pub mod Properties
pub mod Reached
pub mod OneCore
pub mod Blame
pub mod PowerUp
pub mod Laws
pub mod Demands
