pub mod LedgerKept
pub mod OneMoreCall
pub mod OneOutcome
