pub mod Verbs
pub mod Lines
pub mod Refusals
pub mod Replies
pub mod ReplyTexts
pub mod internal
