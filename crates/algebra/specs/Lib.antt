-- The words of the contracts of what writes regions.
pub mod Tidied
pub mod Stops
pub mod Totals
pub mod Steps
pub mod Results
