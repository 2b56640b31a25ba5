-- The checks of judging.
pub mod Checking
