-- The words of the walk's contracts.
pub mod Lent
pub mod Ending
pub mod Tell
pub mod Tally
