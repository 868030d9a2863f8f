pub mod Histories
pub mod Outcomes
pub mod RepliesTo
pub mod Law
