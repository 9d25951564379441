-- A page: the part of a longer text that it takes and what is said of it (`Page`), and a line with a number (`Numbers`). What is proved of these
-- stands in `Laws`.
pub mod Page
pub mod Numbers
pub mod Laws
