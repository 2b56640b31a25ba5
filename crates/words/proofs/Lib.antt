-- Why the functions of words meet their statements, and the laws that their callers use.
pub mod Numbers
pub mod Stored
pub mod Writing
pub mod Encoded
