-- Refusals: the number of each reason, and how an answer reads that is a refusal or not. What is proved of these stands in `Laws`.
pub mod Answers
pub mod Laws
pub mod Numbers
