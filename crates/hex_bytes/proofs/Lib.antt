-- The laws that the crate's proofs share.
pub mod Writing
