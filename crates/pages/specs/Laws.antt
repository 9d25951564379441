-- The laws of this crate: what is proved of the definitions that stand one folder above, and of loops that put something on a page.
pub mod Page
pub mod Putting
