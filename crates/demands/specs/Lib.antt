-- What the user asked for, stated over the rules.
pub mod Refusals
pub mod Netlists
pub mod Answers
pub mod Entries
pub mod Peaks
pub mod Polynomials
pub mod StandIns
