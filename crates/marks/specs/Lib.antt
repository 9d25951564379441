-- The root of this crate's definitions: tables of sets, and what a change makes of one. Their laws stand in `Laws`.
pub mod Marks
pub mod Laws
