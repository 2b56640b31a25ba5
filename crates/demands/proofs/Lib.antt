-- The proofs of the demands.

-- texts: what is read is what is written
pub mod Digits
pub mod Scans
pub mod Fields
pub mod Lines
pub mod NetlistLines
pub mod Tables
pub mod Readings
pub mod TextExact
-- polynomials and their values
pub mod Value
pub mod Follows
-- the values of a netlist's variables
pub mod Assigned
pub mod Gates
pub mod Pairs
pub mod Places
-- the start polynomial, and what the steps keep
pub mod Times
pub mod Operands
pub mod Published
pub mod StartValue
pub mod Addend
pub mod RecordValue
pub mod StepKeeps
pub mod Idle
pub mod StepShape
pub mod Absent
pub mod Occurs
-- answers
pub mod Passed
pub mod TermLimit
pub mod Verdicts
pub mod Soonest
pub mod Right
pub mod Room
pub mod Entries
pub mod Peaks
pub mod Honest
pub mod Finishes
pub mod Decides
-- refusals
pub mod ReadRefused
pub mod Refused
pub mod KindLines
pub mod DeskRefused
pub mod DeskTable
-- stand-ins that are shut out
pub mod StandIns
