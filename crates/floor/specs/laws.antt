-- Proofs that stand among the definitions since the code cites them: there is nothing here to believe.
pub mod AvoidLaws
