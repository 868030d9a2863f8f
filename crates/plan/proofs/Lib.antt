pub mod InsertAndRemove
pub mod FirstGrounds
pub mod AmendAnswers
pub mod OneBestOutcome
