-- Why the merge meets its specifications.
pub mod Scaled
pub mod Flow
pub mod Sweeps
pub mod Merges
