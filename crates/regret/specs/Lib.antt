pub mod FlaggedTimes
pub mod Answers
pub mod laws
