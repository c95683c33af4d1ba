-- The words of the contracts of cubes.
pub mod Count
pub mod Pair
pub mod Header
pub mod Call
pub mod Whole
pub mod Lay
pub mod Code
pub mod Shown
pub mod Row
