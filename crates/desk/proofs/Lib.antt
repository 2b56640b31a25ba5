-- The laws of the desk's proofs.
pub mod Written
pub mod Decimals
pub mod Numbers
pub mod Lines
pub mod Orders
pub mod KindLine
pub mod Buffers
pub mod Texts
