-- What is known of the states while a set is judged without a trace. Assumes nothing.
pub mod Marks
