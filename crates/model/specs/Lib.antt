-- Headers, cubes, differences and regions as sets, the operations on them, and the walk.
pub mod Cube
pub mod Difference
pub mod Sized
pub mod Tidy
pub mod Algebra
pub mod Fields
pub mod Walk
pub mod Index
pub mod Ceiling
pub mod Alike
pub mod Padding
