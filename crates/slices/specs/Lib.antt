-- What is said of slices beside the library's own words: where a part lies, and whether two are the same. What is proved stands in `Laws`.
pub mod Same
pub mod Address
pub mod Laws
