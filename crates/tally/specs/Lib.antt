-- What the functions of tally ensure.
pub mod Marks
