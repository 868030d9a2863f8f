-- How the code stands between two steps. No promise to callers is said in these words.
pub mod AmendedLegs
