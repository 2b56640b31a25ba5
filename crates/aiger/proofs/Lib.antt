-- The laws that the proofs of the functions cite.
pub mod Readings
pub mod Stores
pub mod Passes
