-- The runs that a search holds: `Marked` says which states they mark, `Stored` how a list holds them; and `Traced` the trace as a struct. What is proved of
-- these stands in `Laws`. Assumes nothing.
pub mod Marked
pub mod Stored
pub mod Traced
pub mod Laws
