pub mod Mentions
pub mod Links
pub mod Dependence
pub mod Rows
pub mod Causality
pub mod Laws
pub mod Ways
pub mod CellRuns
