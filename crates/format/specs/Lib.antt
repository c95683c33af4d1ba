-- What the bytes mean, what is refused, and what each call tells.
pub mod Rows
pub mod Limits
pub mod Bytes
pub mod Records
pub mod Files
pub mod Told
pub mod Calls
pub mod Meaning
