pub mod Graphs
pub mod Paths
pub mod Orders
pub mod Cycles
pub mod Parts
pub mod Searches
pub mod Spreading
