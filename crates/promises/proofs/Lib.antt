-- What is promised, on the page Promises, and what the families of calls under it share.
pub mod Telling
pub mod Keeping
pub mod Agreeing
pub mod Deciding
pub mod Promises
