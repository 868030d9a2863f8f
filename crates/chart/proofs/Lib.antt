pub mod LegsByNumber
pub mod Chains
pub mod RouteEnds
pub mod ShortRoutes
pub mod SmallTotals
pub mod BestTotals
pub mod LegsOfRows
pub mod LatticeLegs
