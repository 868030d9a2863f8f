pub mod Models
pub mod Sessions
pub mod Calls
pub mod Steps
pub mod Lines
pub mod Scripts
