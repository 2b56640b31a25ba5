-- How numbers are marked, bit by bit and word by word, how they move, and when they are those of a polynomial.
pub mod Marking
pub mod Moving
pub mod Numbering
