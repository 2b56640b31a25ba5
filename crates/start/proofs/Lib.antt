-- Why what is written is the start polynomial of the rules.
pub mod Sums
pub mod Outputs
pub mod Whole
pub mod Weighing
pub mod Products
pub mod Words
pub mod Loops
pub mod Ends
pub mod Writing
