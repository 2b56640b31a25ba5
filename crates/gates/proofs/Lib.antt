-- Why a gate's tables meet their specifications, and why their streams are the step.
pub mod Flipped
pub mod Whole
pub mod Spread
pub mod Replacing
pub mod Multiplied
pub mod Joined
pub mod Written
pub mod Parted
pub mod Made
pub mod Tables
