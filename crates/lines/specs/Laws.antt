-- What is proved of classes of bytes and of numbers in base ten. What is proved of reading a line stands in proofs/Laws.
pub mod Bytes
pub mod Decimal
