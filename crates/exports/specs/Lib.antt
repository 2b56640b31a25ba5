-- What the functions for C and Rust hosts give back.
pub mod Exported
