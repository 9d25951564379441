-- What is proved of the definitions. It stands apart from specs/, so that an edit of a definition is refused here.
pub mod Meaning
pub mod Changed
pub mod Properties
pub mod TablesOf
pub mod Places
pub mod Filled
