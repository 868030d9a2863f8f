pub mod Answers
pub mod internal
pub mod laws
