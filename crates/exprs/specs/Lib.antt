-- Expressions: what each byte stands for, the syntax tree with its value and its written form, the reading of a list of bytes,
-- and what the functions of this crate answer. What is proved of these stands in `Laws`.
pub mod Token
pub mod Expr
pub mod Reading
pub mod Folded
pub mod Answers
pub mod Laws
