pub mod LegsLeaving
pub mod Snapshots
pub mod Walks
pub mod internal
pub mod laws
