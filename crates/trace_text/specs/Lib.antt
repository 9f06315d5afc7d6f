pub mod Traces
pub mod Faults
pub mod Parts
