-- What the answer by the last polynomial asks.
pub mod Ending
