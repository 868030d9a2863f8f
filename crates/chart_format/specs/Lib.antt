pub mod Format
pub mod Reports
pub mod Words
pub mod Checks
pub mod Bodies
pub mod Faults
pub mod laws
