-- The theorems of the reading: it accepts exactly the written forms of legal models (`Accepted`), and refuses by the first number that fits (`Refused`).
-- What else is proved of the reading stands in `Laws`.
pub mod Accepted
pub mod Refused
pub mod Laws
