-- The laws of the definitions.

-- indices, lists, remainders and bits
pub mod Indices
pub mod All
pub mod Remainders
pub mod Bits
-- counts, tables and kinds
pub mod Sound
pub mod Places
-- polynomials, and the polynomials of a run
pub mod Weighed
pub mod Terms
pub mod Gathered
pub mod AllSets
pub mod Occurring
pub mod Counted
pub mod Trails
-- outcomes
pub mod OneOutcome
-- lookup cells
pub mod CellRule
