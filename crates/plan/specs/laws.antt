-- Proofs that must stand among the definitions, since the code itself cites them.
pub mod PlanLaws
