pub mod WorstChoice
pub mod RegretFromBest
pub mod EveryRouteHasRegret
pub mod OneRegretOutcome
