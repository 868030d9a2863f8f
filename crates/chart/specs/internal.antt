-- How the code stands between two steps: no promise of a chart cites it.
pub mod Steps
