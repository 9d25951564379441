-- The root of this crate's definitions: what is known while sets are judged. Its laws stand in `Laws`.
pub mod Seeds
pub mod Laws
