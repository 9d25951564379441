-- One line of a model text: the bytes of its parts, what reading it gives, and what is written. What is proved of these stands in `Laws` and proofs/Laws.
pub mod Bytes
pub mod Decimal
pub mod Lines
pub mod Written
pub mod Laws
