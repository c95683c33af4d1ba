-- The laws of records and region files.
pub mod Fronts
pub mod Differences
pub mod Alone
pub mod Cubing
pub mod Held
pub mod Membership
pub mod Strides
pub mod Onward
pub mod Viewed
pub mod Stepping
pub mod Reading
pub mod Turning
pub mod Writing
