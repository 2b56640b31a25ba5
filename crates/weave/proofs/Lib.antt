-- Why the weave meets its specifications.
pub mod Fronts
pub mod Places
pub mod Falling
pub mod Without
pub mod Growing
pub mod Woven
pub mod States
pub mod Turns
pub mod Choices
pub mod Rounds
pub mod Tops
