-- What a list of cores and a list of cuts say of a set of rules. What is proved of these definitions stands in `Laws`.
pub mod Search
pub mod Suffices
pub mod Laws
