-- What is proved of the definitions of a log. It stands apart from specs/, so that an edit of the definitions is refused here.
pub mod Log
