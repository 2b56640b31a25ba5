-- Why the answer is what the rules say of the last polynomial.
pub mod Ended
