-- `PartLines` has what the functions that read the lines behind `init` need.
pub mod PartLines
