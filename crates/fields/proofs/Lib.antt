-- The laws that the crate's proofs share.
pub mod Fielding
pub mod Bounding
pub mod Equalities
pub mod Constraints
