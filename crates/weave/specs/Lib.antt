-- The specifications of weave.
pub mod Merging
pub mod Written
pub mod Seeking
pub mod Weaving
