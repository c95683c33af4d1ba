-- The laws that the crate's proofs share.
pub mod Taking
pub mod Pieces
pub mod Counting
pub mod Stepping
pub mod Running
pub mod Operating
pub mod Padded
pub mod Standing
pub mod Measured
pub mod Calling
