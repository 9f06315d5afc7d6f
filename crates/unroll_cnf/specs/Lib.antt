pub mod Clauses
pub mod Counterexamples
pub mod Rows
pub mod Unrollings
