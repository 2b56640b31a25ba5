-- What a step is in lent words.
pub mod Stepping
