-- The laws of this crate: what is proved of the definitions in specs/. They stand here, so that an edit of such a definition is refused here.
pub mod Answers
pub mod Sizes
