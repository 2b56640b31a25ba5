-- The laws that the proofs of the wanted word share.
pub mod Readings
