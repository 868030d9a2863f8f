pub mod Rivals
pub mod Pursuits
pub mod Answers
pub mod internal
