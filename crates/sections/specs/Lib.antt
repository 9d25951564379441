-- The sections of a report: their bytes (`Sections`), the model of a text that was read (`Told`), the sets that lent bytes hold (`Decoded`), and the rules
-- that an iterator over a set has left (`Rules`).
-- What is proved of these stands in `Laws`.
pub mod Decoded
pub mod Sections
pub mod Rules
pub mod Told
pub mod Laws
