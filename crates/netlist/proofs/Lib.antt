-- The laws that the proofs of the evaluator share.
pub mod Facts
pub mod Filled
pub mod Summed
pub mod Said
