-- The calls: what each answers and what the lent bytes hold afterwards (`Answers`), and what the functions below them hand on (`AsRead`).
-- What is proved of these stands in proofs/Laws.
pub mod Answers
pub mod AsRead
