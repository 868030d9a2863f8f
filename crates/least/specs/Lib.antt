pub mod Answers
pub mod Bounds
pub mod internal
