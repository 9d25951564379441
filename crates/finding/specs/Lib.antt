-- The root of this crate's definitions: where the sets of a model are marked, and what listing sets answers and writes.
pub mod Finding
pub mod Lists
