-- Why the terms put together in place are the gathered ones.
pub mod Written
pub mod Moves
pub mod Placing
pub mod Parting
pub mod Turning
pub mod Finishing
