-- What is proved of the reading of a whole text, and of what is changed in one. These laws stand apart from specs/, so that an edit of the definitions is
-- refused here.
pub mod Finished
pub mod Steps
pub mod Ranges
pub mod Written
pub mod Overlaps
pub mod Refusals
pub mod Changed
