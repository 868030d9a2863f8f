pub mod Files
pub mod Readings
pub mod internal
