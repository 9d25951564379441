-- The theorem of several properties, apart from the laws of specs/: an edit of the definitions that it is about is then refused here.
pub mod Properties
