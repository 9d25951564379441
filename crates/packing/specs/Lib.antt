-- An answer in the parts that the documents name, and as one number (`Packing`). What is proved of it stands in `Laws`.
pub mod Packing
pub mod Laws
