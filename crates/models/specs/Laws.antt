-- What is proved of the definitions other than the reading. What is proved of the reading stands in proofs/Laws.
pub mod Lines
pub mod Lists
pub mod Rules
pub mod Properties
pub mod Grounds
pub mod Parts
pub mod Fitting
pub mod Numbers
pub mod Tables
pub mod Names
