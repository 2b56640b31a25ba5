-- The specifications of words.
pub mod Numbers
pub mod Listed
pub mod Reading
pub mod Stored
pub mod Stretches
