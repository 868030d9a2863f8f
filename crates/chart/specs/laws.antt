-- Proofs that stand among the definitions since the kinds, the choices and the charts themselves cite them.
-- There is nothing here to believe.
pub mod Kinds
pub mod Rows
pub mod Tables
pub mod Lattices
