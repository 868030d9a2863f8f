-- How the code stands between two steps: the clauses of private functions cite it, and the invariants of a snapshot and of what
-- goes through its legs. No clause of a public call does.
pub mod Index
pub mod Labels
pub mod Invariants
