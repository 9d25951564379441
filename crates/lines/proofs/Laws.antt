-- What is proved of reading a line. These laws stand apart from specs/, so that an edit of the definitions is refused here.
pub mod Numbers
pub mod Expressions
pub mod Heard
pub mod Ended
pub mod Lines
