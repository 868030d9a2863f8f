-- How the search stands between two steps.
pub mod BranchAndBound
