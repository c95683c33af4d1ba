-- What the proofs of several functions use, and what is proved of the definitions alone.
pub mod Settle
pub mod Openings
pub mod CutRows
pub mod Turn
pub mod Step
pub mod Digits
pub mod WordCubes
pub mod Places
pub mod Meeting
pub mod Slots
pub mod Paying
pub mod Narrowing
pub mod Carrying
pub mod Entering
pub mod Whole
pub mod Walked
