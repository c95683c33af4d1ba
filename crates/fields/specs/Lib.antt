-- The words of the contracts of fields.
pub mod Bounds
pub mod Equality
pub mod Pairs
