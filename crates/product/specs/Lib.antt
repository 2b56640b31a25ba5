-- The kinds as the code has them.
pub mod Kinds
