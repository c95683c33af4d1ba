-- The laws of the format.
pub mod Reached
pub mod Coding
pub mod Heading
pub mod Recording
pub mod Filing
pub mod Lending
pub mod Rewriting
pub mod Refusals
pub mod Asking
pub mod Deciding
pub mod Belonging
pub mod Viewing
pub mod Figures
pub mod IndexFigures
