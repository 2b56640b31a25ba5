-- The laws of the judge.
pub mod Numbers
pub mod Held
pub mod Peak
pub mod Going
pub mod Place
pub mod Opened
pub mod Judged
