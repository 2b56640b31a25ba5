-- Why the table is right, which part of it the last arm gives, and what writing a row comes to.
pub mod Arms
pub mod Tested
pub mod Writing
