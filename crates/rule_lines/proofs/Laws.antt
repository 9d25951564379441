-- What is proved of reading a rule line. These laws stand apart from specs/, so that an edit of the definitions is refused here.
pub mod Numbers
pub mod Parts
pub mod Heard
pub mod RuleLines
pub mod ByEnd
