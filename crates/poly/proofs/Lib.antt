-- Why a step in lent words is the step of the rules.
pub mod Parts
pub mod Joins
pub mod Tables
pub mod Restored
pub mod Woven
pub mod Settled
pub mod Numbered
pub mod Placed
