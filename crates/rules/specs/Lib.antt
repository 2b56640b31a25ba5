-- The rules of documents 01 and 02, as definitions that compute.
pub mod Each
pub mod Says
pub mod Limits
pub mod Netlist
pub mod Values
pub mod Product
pub mod Polynomial
pub mod Cells
pub mod Steps
pub mod Judging
pub mod Occurrences
pub mod Text
pub mod Reading
pub mod Desk
pub mod Bench
pub mod Cases
