-- What the proofs of several functions use, and what is proved of the definitions alone.
pub mod Frees
pub mod Slices
pub mod Caps
pub mod Tallies
pub mod Recorded
pub mod Ended
pub mod Accepted
pub mod Emptied
pub mod Moved
pub mod Restoring
pub mod Included
