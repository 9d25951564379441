-- The laws of this crate. They stand apart from specs/, so that an edit of the definitions is refused here.
pub mod Answer
pub mod Run
