-- The model text: the reading of the whole, what an accepted model means and when a text is refused. That the reading accepts exactly the written
-- forms of legal models (proofs/Accepted), and refuses by the first number that fits (proofs/Refused), stands with what else is proved of the reading
-- in proofs/. What is proved of the other definitions stands in `Laws`.
pub mod Reading
pub mod Places
pub mod Written
pub mod Refusals
pub mod Overlaps
pub mod Changed
pub mod Laws
