-- What the start polynomial is in lent words.
pub mod Start
pub mod Writing
pub mod Weighing
