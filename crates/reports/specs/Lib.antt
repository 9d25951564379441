-- The report: its bytes and the part of an input that is judged (`Report`), and the reports that document 01 prints, computed (`Examples`). What is
-- proved of these stands in `Laws`.
pub mod Report
pub mod Laws
pub mod Examples
