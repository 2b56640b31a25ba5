-- The laws of the proofs of exports.
pub mod Givings
