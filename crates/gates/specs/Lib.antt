-- What a gate is to the streams of a step.
pub mod Rows
pub mod Apart
pub mod Masks
