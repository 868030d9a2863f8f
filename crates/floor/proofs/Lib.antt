pub mod JoinedLists
pub mod FixesOfChains
pub mod AvoidingTotals
pub mod RoutesExtending
pub mod ShutLegs
pub mod FloorBelowRegret
pub mod FloorFromTotals
pub mod OneFloorOutcome
