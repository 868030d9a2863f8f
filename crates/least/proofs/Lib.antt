pub mod LexicalOrder
pub mod UniqueLeastRegret
pub mod UpdatedIncumbent
pub mod PrunedChains
pub mod SearchedParts
pub mod ExploredLegs
pub mod OptimalRoute
pub mod OneRouteOutcome
