-- What the functions of rows ensure.
pub mod Rows
