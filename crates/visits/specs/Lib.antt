-- The words of the contracts of visits.
pub mod Cuts
pub mod Opening
pub mod Settle
pub mod Words
pub mod Places
pub mod Alive
pub mod Memory
pub mod Replies
pub mod Loading
pub mod Walked
