pub mod Cut
pub mod LineWords
pub mod Parts
