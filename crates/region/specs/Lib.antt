-- The words of the contracts of records and region files.
pub mod Front
pub mod Ahead
pub mod Difference
pub mod Asked
pub mod Reached
pub mod Reader
pub mod Lent
pub mod Viewing
pub mod Stepping
pub mod Writing
