-- The words of the statement page.
pub mod Outcome
pub mod Accepted
pub mod Decides
