-- The laws that the proofs of the functions cite.
pub mod Digits
pub mod Scans
pub mod Words
