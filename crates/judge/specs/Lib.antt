-- The specifications of the judge.
pub mod Running
pub mod Deciding
